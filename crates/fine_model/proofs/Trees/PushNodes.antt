-- The nodes of a bucket after one more row, and after the three rows of a split.
use Rattle.std.proofs.Common.{◌≡◌, ◌≢◌, ℕ, ◌+◌, ◌==◌, cond, ◌&&◌, List, [], ◌∷◌, ◌++◌, refl, sym, ap, ◌∙◌, subst, eq-eqb, ne_eqb, append_assoc}
use Rattle.fine_model.specs.Types.{Rec, Row, Node}
use Rattle.fine_model.specs.Nodes.{Content, step_node, step}
use Rattle.fine_model.specs.Trees.{nodes_of}
use Rattle.fine_model.specs.Pushed.{row_of}
use Rattle.fine_model.proofs.Trees.LeafLaw.{content-push}

module _ (bucket : ℕ) where
  pub push_here : (rows : List Row) (k version : ℕ) (change : Rec) → nodes_of (rows ++ row_of bucket k version change ∷ []) bucket k ≡ (step_node (nodes_of rows bucket k) version change, version)
  unfolding step
  push_here rows k version change =
      content-push rows (row_of bucket k version change) (record { bucket = bucket; number = k })
      ∙ ap (λ b. cond b (step (nodes_of rows bucket k) (row_of bucket k version change)) (nodes_of rows bucket k)) (ap (λ b. b && (k == k)) (eq-eqb bucket bucket refl) ∙ eq-eqb k k refl)

  pub push_other : (rows : List Row) (k version : ℕ) (change : Rec) (n : ℕ) → n ≢ k → nodes_of (rows ++ row_of bucket k version change ∷ []) bucket n ≡ nodes_of rows bucket n
  push_other rows k version change n other =
      content-push rows (row_of bucket k version change) (record { bucket = bucket; number = n })
      ∙ ap (λ b. cond b (step (nodes_of rows bucket n) (row_of bucket k version change)) (nodes_of rows bucket n)) (ap (λ b. b && (n == k)) (eq-eqb bucket bucket refl) ∙ ne_eqb n k other)

  -- two nodes were changed, and no others
  pub record TwoChanged (old new : ℕ → Content) (number right : ℕ) (at_number at_right : Node) : Type 0 where
    pub here : (new number).0 ≡ at_number
    pub there : (new right).0 ≡ at_right
    pub others : (n : ℕ) → n ≢ number → n ≢ right → new n ≡ old n

  module _ (rows : List Row) (number right : ℕ) (apart : number ≢ right) (image cut last : Rec) (at_right at_number : Node)
      (is_image : (c : Content) → step_node c 1 image ≡ at_right)
      (is_cut : step_node (nodes_of rows bucket number) ((nodes_of rows bucket number).1 + 1) cut ≡ at_number) where
    abbrev version : ℕ
    version = (nodes_of rows bucket number).1

    abbrev first : List Row
    first = rows ++ row_of bucket right 1 image ∷ []

    abbrev second : List Row
    second = first ++ row_of bucket number (version + 1) cut ∷ []

    in_turn : (row : Row) → rows ++ row_of bucket right 1 image ∷ row_of bucket number (version + 1) cut ∷ row ∷ [] ≡ second ++ row ∷ []
    in_turn row =
        sym (append_assoc rows (row_of bucket right 1 image ∷ []) (row_of bucket number (version + 1) cut ∷ row ∷ []))
        ∙ sym (append_assoc first (row_of bucket number (version + 1) cut ∷ []) (row ∷ []))

    second_right : nodes_of second bucket right ≡ (at_right, 1)
    second_right =
        push_other first number (version + 1) cut right (λ e. apart (sym e))
        ∙ push_here rows right 1 image ∙ ap (λ n. (n, 1)) (is_image (nodes_of rows bucket right))

    second_number : nodes_of second bucket number ≡ (at_number, version + 1)
    second_number =
        push_here first number (version + 1) cut
        ∙ ap (λ c. (step_node c (version + 1) cut, version + 1)) (push_other rows right 1 image number apart)
        ∙ ap (λ n. (n, version + 1)) is_cut

    second_other : (n : ℕ) → n ≢ number → n ≢ right → nodes_of second bucket n ≡ nodes_of rows bucket n
    second_other n other other' = push_other first number (version + 1) cut n other ∙ push_other rows right 1 image n other'

    -- the last row changes the left node
    pub last_left : (after : Node) → step_node (at_number, version + 1) (version + 2) last ≡ after
        → TwoChanged (nodes_of rows bucket) (nodes_of (rows ++ row_of bucket right 1 image ∷ row_of bucket number (version + 1) cut ∷ row_of bucket number (version + 2) last ∷ []) bucket) number right after at_right
    last_left after is =
        subst (λ rs. TwoChanged (nodes_of rows bucket) (nodes_of rs bucket) number right after at_right) (sym (in_turn (row_of bucket number (version + 2) last)))
        (record {
          here = ap (λ c. c.0) (push_here second number (version + 2) last) ∙ ap (λ c. step_node c (version + 2) last) second_number ∙ is;
          there = ap (λ c. c.0) (push_other second number (version + 2) last right (λ e. apart (sym e)) ∙ second_right);
          others = λ n other other'. push_other second number (version + 2) last n other ∙ second_other n other other';
        })

    -- the last row changes the right node
    pub last_right : (after : Node) → step_node (at_right, 1) 2 last ≡ after
        → TwoChanged (nodes_of rows bucket) (nodes_of (rows ++ row_of bucket right 1 image ∷ row_of bucket number (version + 1) cut ∷ row_of bucket right 2 last ∷ []) bucket) number right at_number after
    last_right after is =
        subst (λ rs. TwoChanged (nodes_of rows bucket) (nodes_of rs bucket) number right at_number after) (sym (in_turn (row_of bucket right 2 last)))
        (record {
          here = ap (λ c. c.0) (push_other second right 2 last number apart ∙ second_number);
          there = ap (λ c. c.0) (push_here second right 2 last) ∙ ap (λ c. step_node c 2 last) second_right ∙ is;
          others = λ n other other'. push_other second right 2 last n other' ∙ second_other n other other';
        })
