pub mod Eyes
