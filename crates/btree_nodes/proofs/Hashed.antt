-- The low byte of a hash, of eight bytes at once.
use Rattle.std.proofs.Common.{◌≡◌, ℕ, zero, suc, ◌+◌, ◌-◌, ◌*◌, ◌/◌, ◌%◌, ◌^◌, ◌<◌, ◌≤◌, List, [], ◌∷◌, length, take, get_or, bit_and, refl, sym, ap, ◌∙◌, arith}
use Rattle.std.specs.Prelude.{fold}
use Rattle.std.proofs.lemmas.Nat.{and_block, and_mask}
use Rattle.fine_model.specs.Trees.{bucket_of}
use Rattle.btree_nodes.specs.Hashes.{low_step, lanes, hash_of_word, IsFirstWord}

-- the low byte needs no other bit of the hash before
low_of : (hash : ℕ) (key : List ℕ) → fold (λ h byte. (31 * h + byte) % 4294967296) hash key % 256 ≡ fold low_step (hash % 256) key
low_of hash [] = refl
low_of hash (byte ∷ key) = low_of ((31 * hash + byte) % 4294967296) key
    ∙ ap (λ h. fold low_step h key) (let e : (31 * hash + byte) % 4294967296 % 256 ≡ (31 * (hash % 256) + byte) % 256 = omega arith in e)

pub bucket_low : (key : List ℕ) → bucket_of key ≡ fold low_step 0 key
unfolding bucket_of
bucket_low key = low_of 0 key

-- the lowest lane of sixteen bits keeps its low byte
and_lane : (x y m : ℕ) → x < 65536 → bit_and (y * 65536 + x) (m * 65536 + 255) ≡ bit_and y m * 65536 + x % 256
and_lane x y m small = and_block 16 y m x 255 small (omega arith) ∙ ap (λ z. bit_and y m * 65536 + z) (and_mask x 8)

and_lanes : (x0 x1 x2 x3 : ℕ) → x0 < 65536 → x1 < 65536 → x2 < 65536 → bit_and (lanes x0 x1 x2 x3) 71777214294589695 ≡ lanes (x0 % 256) (x1 % 256) (x2 % 256) (x3 % 256)
and_lanes x0 x1 x2 x3 h0 h1 h2 =
    and_lane x0 ((x3 * 65536 + x2) * 65536 + x1) 1095233372415 h0
    ∙ ap (λ n. n * 65536 + x0 % 256) (and_lane x1 (x3 * 65536 + x2) 16711935 h1 ∙ ap (λ n. n * 65536 + x1 % 256) (and_lane x2 x3 255 h2 ∙ ap (λ n. n * 65536 + x2 % 256) (and_mask x3 8)))

-- a product that sums four lanes into the highest
sum_lanes : (x0 x1 x2 x3 : ℕ) → x0 < 256 → x1 < 256 → x2 < 256 → x3 < 256
    → (lanes x0 x1 x2 x3 * 54888183103684611 % 18446744073709551616 / 281474976710656) % 256 ≡ (195 * x0 + 131 * x1 + 67 * x2 + 3 * x3) % 256
sum_lanes x0 x1 x2 x3 h0 h1 h2 h3 = omega arith

module _ (a b c d e f g h : ℕ) (ha : a < 256) (hb : b < 256) (hc : c < 256) (hd : d < 256) (he : e < 256) (hf : f < 256) (hg : g < 256) (hh : h < 256) where
  abbrev word : ℕ
  word = lanes (a + b * 256) (c + d * 256) (e + f * 256) (g + h * 256)

  evens : bit_and word 71777214294589695 ≡ lanes a c e g
  evens =
      let ea : (a + b * 256) % 256 ≡ a = omega arith in
      let ec : (c + d * 256) % 256 ≡ c = omega arith in
      let ee : (e + f * 256) % 256 ≡ e = omega arith in
      let eg : (g + h * 256) % 256 ≡ g = omega arith in
      and_lanes (a + b * 256) (c + d * 256) (e + f * 256) (g + h * 256) (omega arith) (omega arith) (omega arith) ∙ (λ i. lanes (ea i) (ec i) (ee i) (eg i))

  odds : bit_and (word / 256) 71777214294589695 ≡ lanes b d f h
  odds =
      let shifted : word / 256 ≡ lanes (b + c * 256) (d + e * 256) (f + g * 256) h = omega arith in
      let eb : (b + c * 256) % 256 ≡ b = omega arith in
      let ed : (d + e * 256) % 256 ≡ d = omega arith in
      let ef : (f + g * 256) % 256 ≡ f = omega arith in
      let eh : h % 256 ≡ h = omega arith in
      ap (λ n. bit_and n 71777214294589695) shifted
      ∙ and_lanes (b + c * 256) (d + e * 256) (f + g * 256) h (omega arith) (omega arith) (omega arith) ∙ (λ i. lanes (eb i) (ed i) (ef i) (eh i))

  abbrev x0 : ℕ
  x0 = 31 * a + b

  abbrev x1 : ℕ
  x1 = 31 * c + d

  abbrev x2 : ℕ
  x2 = 31 * e + f

  abbrev x3 : ℕ
  x3 = 31 * g + h

  joined : bit_and (bit_and word 71777214294589695 * 31 + bit_and (word / 256) 71777214294589695) 71777214294589695 ≡ lanes (x0 % 256) (x1 % 256) (x2 % 256) (x3 % 256)
  joined =
      let both : lanes a c e g * 31 + lanes b d f h ≡ lanes x0 x1 x2 x3 = omega arith in
      (λ i. bit_and (evens i * 31 + odds i) 71777214294589695) ∙ ap (λ n. bit_and n 71777214294589695) both ∙ and_lanes x0 x1 x2 x3 (omega arith) (omega arith) (omega arith)

  summed : hash_of_word word ≡ (195 * (x0 % 256) + 131 * (x1 % 256) + 67 * (x2 % 256) + 3 * (x3 % 256)) % 256 * 171 % 256
  unfolding hash_of_word
  summed =
      ap (λ n. bit_and (n * 54888183103684611 % 18446744073709551616 / 281474976710656) 255 * 171 % 256) joined
      ∙ ap (λ n. n * 171 % 256) (and_mask (lanes (x0 % 256) (x1 % 256) (x2 % 256) (x3 % 256) * 54888183103684611 % 18446744073709551616 / 281474976710656) 8
      ∙ sum_lanes (x0 % 256) (x1 % 256) (x2 % 256) (x3 % 256) (omega arith) (omega arith) (omega arith) (omega arith))

  eight_steps : (low : ℕ) → low_step (low_step (low_step (low_step (low_step (low_step (low_step (low_step low a) b) c) d) e) f) g) h ≡ (low + (195 * (x0 % 256) + 131 * (x1 % 256) + 67 * (x2 % 256) + 3 * (x3 % 256)) % 256 * 171 % 256) % 256
  eight_steps low = omega arith

  -- the low byte behind eight bytes
  pub hashed_word : (n : ℕ) → n ≡ word → (low : ℕ) → fold low_step low (a ∷ b ∷ c ∷ d ∷ e ∷ f ∷ g ∷ h ∷ []) ≡ (low + hash_of_word n) % 256
  hashed_word n is low = eight_steps low ∙ ap (λ m. (low + m) % 256) (sym (ap hash_of_word is ∙ summed))

-- eight bytes of a list
abbrev Byte : List ℕ → ℕ → Type 0
Byte bytes i = get_or bytes i 0 < 256

pub hashed : (bytes : List ℕ) (word : ℕ) → length bytes ≡ 8 → ((i : ℕ) → Byte bytes i) → IsFirstWord bytes word → (low : ℕ) → fold low_step low bytes ≡ (low + hash_of_word word) % 256
hashed bytes n long small is low =
    ap (fold low_step low) (eight_of bytes long)
    ∙ hashed_word (get_or bytes 0 0) (get_or bytes 1 0) (get_or bytes 2 0) (get_or bytes 3 0) (get_or bytes 4 0) (get_or bytes 5 0) (get_or bytes 6 0) (get_or bytes 7 0) (small 0) (small 1) (small 2) (small 3) (small 4) (small 5) (small 6) (small 7) n is low
  where
    eight_of : (xs : List ℕ) → length xs ≡ 8 → xs ≡ get_or xs 0 0 ∷ get_or xs 1 0 ∷ get_or xs 2 0 ∷ get_or xs 3 0 ∷ get_or xs 4 0 ∷ get_or xs 5 0 ∷ get_or xs 6 0 ∷ get_or xs 7 0 ∷ []
    eight_of (a ∷ b ∷ c ∷ d ∷ e ∷ f ∷ g ∷ h ∷ []) long = refl
    eight_of _ long = absurd (omega (arith, long))

zero_small : 0 < 256
zero_small = omega arith

low_hash : (n : ℕ) → (0 + hash_of_word n) % 256 ≡ hash_of_word n
unfolding hash_of_word
low_hash n = omega arith

-- zeros in front of the first bytes add nothing
module _ (a b c d e f g h : ℕ) (ha : a < 256) (hb : b < 256) (hc : c < 256) (hd : d < 256) (he : e < 256) (hf : f < 256) (hg : g < 256) (hh : h < 256) (more : List ℕ) (n : ℕ) where
  first_bytes : (many : ℕ) → 1 ≤ many → many < 8 → n ≡ lanes (a + b * 256) (c + d * 256) (e + f * 256) (g + h * 256) * 2 ^ (64 - 8 * many) % 18446744073709551616 → hash_of_word n ≡ fold low_step 0 (take many (a ∷ b ∷ c ∷ d ∷ e ∷ f ∷ g ∷ h ∷ more))
  first_bytes zero low high is = absurd (omega arith)
  first_bytes (suc zero) low high is = sym (hashed_word 0 0 0 0 0 0 0 a zero_small zero_small zero_small zero_small zero_small zero_small zero_small ha n (is ∙ omega (arith, ha, hb, hc, hd, he, hf, hg, hh)) 0 ∙ low_hash n)
  first_bytes (suc (suc zero)) low high is = sym (hashed_word 0 0 0 0 0 0 a b zero_small zero_small zero_small zero_small zero_small zero_small ha hb n (is ∙ omega (arith, ha, hb, hc, hd, he, hf, hg, hh)) 0 ∙ low_hash n)
  first_bytes (suc (suc (suc zero))) low high is = sym (hashed_word 0 0 0 0 0 a b c zero_small zero_small zero_small zero_small zero_small ha hb hc n (is ∙ omega (arith, ha, hb, hc, hd, he, hf, hg, hh)) 0 ∙ low_hash n)
  first_bytes (suc (suc (suc (suc zero)))) low high is = sym (hashed_word 0 0 0 0 a b c d zero_small zero_small zero_small zero_small ha hb hc hd n (is ∙ omega (arith, ha, hb, hc, hd, he, hf, hg, hh)) 0 ∙ low_hash n)
  first_bytes (suc (suc (suc (suc (suc zero))))) low high is = sym (hashed_word 0 0 0 a b c d e zero_small zero_small zero_small ha hb hc hd he n (is ∙ omega (arith, ha, hb, hc, hd, he, hf, hg, hh)) 0 ∙ low_hash n)
  first_bytes (suc (suc (suc (suc (suc (suc zero)))))) low high is = sym (hashed_word 0 0 a b c d e f zero_small zero_small ha hb hc hd he hf n (is ∙ omega (arith, ha, hb, hc, hd, he, hf, hg, hh)) 0 ∙ low_hash n)
  first_bytes (suc (suc (suc (suc (suc (suc (suc zero))))))) low high is = sym (hashed_word 0 a b c d e f g zero_small ha hb hc hd he hf hg n (is ∙ omega (arith, ha, hb, hc, hd, he, hf, hg, hh)) 0 ∙ low_hash n)
  first_bytes (suc (suc (suc (suc (suc (suc (suc (suc many)))))))) low high is = absurd (omega (arith, high))

pub hashed_first : (key : List ℕ) (many word n : ℕ) → 8 ≤ length key → 1 ≤ many → many < 8 → ((i : ℕ) → Byte key i) → IsFirstWord key word → n ≡ word * 2 ^ (64 - 8 * many) % 18446744073709551616 → hash_of_word n ≡ fold low_step 0 (take many key)
hashed_first (a ∷ b ∷ c ∷ d ∷ e ∷ f ∷ g ∷ h ∷ more) many word n long low high small first is =
    first_bytes a b c d e f g h (small 0) (small 1) (small 2) (small 3) (small 4) (small 5) (small 6) (small 7) more n many low high (is ∙ ap (λ w. w * 2 ^ (64 - 8 * many) % 18446744073709551616) first)
hashed_first ([]) many word n long low high small first is = absurd (omega (arith, long))
hashed_first (a ∷ []) many word n long low high small first is = absurd (omega (arith, long))
hashed_first (a ∷ b ∷ []) many word n long low high small first is = absurd (omega (arith, long))
hashed_first (a ∷ b ∷ c ∷ []) many word n long low high small first is = absurd (omega (arith, long))
hashed_first (a ∷ b ∷ c ∷ d ∷ []) many word n long low high small first is = absurd (omega (arith, long))
hashed_first (a ∷ b ∷ c ∷ d ∷ e ∷ []) many word n long low high small first is = absurd (omega (arith, long))
hashed_first (a ∷ b ∷ c ∷ d ∷ e ∷ f ∷ []) many word n long low high small first is = absurd (omega (arith, long))
hashed_first (a ∷ b ∷ c ∷ d ∷ e ∷ f ∷ g ∷ []) many word n long low high small first is = absurd (omega (arith, long))
