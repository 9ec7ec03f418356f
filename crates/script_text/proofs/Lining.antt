-- Lines of words.
use Rattle.std.proofs.Common.{◌≡◌, List, [], ◌∷◌, ◌++◌, map, sym, ap, ◌∙◌, subst}
use Rattle.script_text.specs.Pages.{Desk, Sends}
use Rattle.script_text.proofs.Paging.{sends_then}
use Rattle.std.specs.List.{flat_map, join_with_byte}
use Rattle.std.proofs.lemmas.List.{append-nil}
use Rattle.script_text.specs.Words.{bytes_of, spaced}
use Rattle.script_text.specs.declared.line.Word.{Word}

pub join_spaced : (w : Word) (ws : List Word) → bytes_of w ++ flat_map spaced ws ≡ join_with_byte 32 (map bytes_of (w ∷ ws))
join_spaced w [] = append-nil (bytes_of w)
join_spaced w (v ∷ ws) = ap (λ t. bytes_of w ++ (32 ∷ t)) (join_spaced v ws)

pub sends_words : (ws : List Word) (w : Word) (rest : List Word) (a b c : Desk) → ws ≡ w ∷ rest
    → Sends (bytes_of w) a b → Sends (flat_map spaced rest) b c → Sends (join_with_byte 32 (map bytes_of ws)) a c
sends_words ws w rest a b c e p q =
    subst (λ t. Sends t a c) (join_spaced w rest ∙ ap (λ v. join_with_byte 32 (map bytes_of v)) (sym e)) (sends_then (bytes_of w) (flat_map spaced rest) a b c p q)
