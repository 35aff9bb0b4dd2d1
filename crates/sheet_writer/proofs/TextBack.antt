-- A text is what is written of what was read from it.
use Rattle.std.proofs.Common.{◌≡◌, ℕ, zero, suc, ◌+◌, ◌^◌, ◌<◌, eqb, List, [], ◌∷◌, ◌++◌, length, Some, None, Ok, Err, codes, Option, Result, sym, refl, ap, ◌∙◌, append_assoc, append-nil, arith}
use Prim.Native.String.{String}
use Rattle.std.specs.List.{flat_map}
use Rattle.std.proofs.lemmas.List.{nil_from_length}
use Rattle.std.proofs.lemmas.Bool.{eqb-true}
use Rattle.text.specs.Cuts.{cut, parts}
use Rattle.text.proofs.Parted.{cut_is}
use Rattle.sheet_text.specs.Lines.{one, two, three, four, eight, period_line, day_ahead_line, forced_line, count_line, offer_line, unit_line, group_line, end_line}
use Rattle.sheet_text.specs.Reading.{Left, then, line_of, a_line, entries, a_list, finished, the_end, reading}
use Rattle.sheet_text.specs.declared.faults.LineFault.{LineFault}
use Rattle.sheet_text.specs.declared.faults.Section.TheVariants as section
use Rattle.sheet_writer.specs.Laws.{text_of, ReadIsWrittenBack}
use Rattle.sheet_writer.specs.Rendered.{spaced, line, day_ahead_fields, forced_fields, offer_fields, unit_fields, group_fields, count_fields, end_fields, list_text, rendered}
use Rattle.std.proofs.lemmas.Result.{IfOk-weaker}
use Rattle.sheet_laws.proofs.Limited.{Gives, gives_then}
use Rattle.sheet_writer.proofs.Gives.{given, gives_cond, gives_inside}
use Rattle.sheet_writer.proofs.LinesBack.{WrittenBack, place_fields, only_end, period_back, day_ahead_back, forced_back, count_back, offer_back, unit_back, group_back, end_back}
use Rattle.sheet_writer.proofs.Spacing.{parts_join}

-- a text begins with what is written of x, and the rest is left
abbrev Begins : {A : Type 0} → (A → List ℕ) → Left → A × Left → Type 0
Begins text s x = s.text ≡ text x.0 ++ x.1.text

abbrev line_with : {A : Type 0} → (A → List (List ℕ)) → A → List ℕ
line_with fields x = line (fields x)

module _ {A : Type 0} (fields : A → List (List ℕ)) (says : ℕ → List (List ℕ) → Result A LineFault) (back : WrittenBack fields says) (s : Left) where
  said_back : (p : List ℕ × List ℕ) → s.text ≡ p.0 ++ (10 ∷ p.1) → (r : Result A LineFault) → Gives (λ x. parts 32 p.0 ≡ fields x) r
      → Gives (Begins (line_with fields) s) (then r (λ x. Ok (x, record { line = s.line + 1; text = p.1 })))
  said_back p whole (Err f) h = tt
  said_back p whole (Ok x) h =
      whole
      ∙ ap (λ (t : List ℕ). t ++ (10 ∷ p.1)) (sym (parts_join p.0) ∙ ap spaced h)
      ∙ sym (append_assoc (spaced (fields x)) (codes "\n") p.1)

  cut_back : (o : Option (List ℕ × List ℕ)) → cut 10 s.text ≡ o → Gives (Begins (line_with fields) s) (then (line_of s.line o) (λ b. then (says s.line (parts 32 b.0)) (λ x. Ok (x, b.1))))
  cut_back None e = tt
  cut_back (Some p) e = said_back p (cut_is 10 s.text p e).whole (says s.line (parts 32 p.0)) (back s.line (parts 32 p.0))

  line_back : Gives (Begins (line_with fields) s) (a_line says s)
  line_back = cut_back (cut 10 s.text) refl

module _ {A : Type 0} (fields : A → List (List ℕ)) (says : ℕ → ℕ → List (List ℕ) → Result A LineFault) (order : A → ℕ) (back : (before : ℕ) → WrittenBack fields (says before)) where
  -- n more entries, behind those so far
  record Behind (n : ℕ) (so_far : List A) (s : Left) (r : List A × Left) : Type 0 where
    more : List A
    many : length more ≡ n
    all : r.0 ≡ so_far ++ more
    begins : s.text ≡ flat_map (line_with fields) more ++ r.1.text

  behind_more : (n : ℕ) (so_far : List A) (s : Left) (x : A × Left) → Begins (line_with fields) s x → (r : List A × Left) → Behind n (so_far ++ x.0 ∷ []) x.1 r → Behind (suc n) so_far s r
  behind_more n so_far s x first r h = record {
    more = x.0 ∷ h.more;
    many = ap suc h.many;
    all = h.all ∙ append_assoc so_far (x.0 ∷ []) h.more;
    begins = first ∙ ap (λ (t : List ℕ). line (fields x.0) ++ t) h.begins ∙ sym (append_assoc (line (fields x.0)) (flat_map (line_with fields) h.more) r.1.text);
  }

  entries_back : (n before : ℕ) (so_far : List A) (s : Left) → Gives (Behind n so_far s) (entries says order n before so_far s)
  entries_back zero before so_far s = record { more = []; many = refl; all = sym (append-nil so_far); begins = refl }
  entries_back (suc n) before so_far s =
      gives_then (Begins (line_with fields) s) _ (a_line (says before) s) _ (line_back fields (says before) (back before) s) (λ x first.
      IfOk-weaker (entries says order n (order x.0) (so_far ++ x.0 ∷ []) x.1) (Behind n (so_far ++ x.0 ∷ []) x.1) (Behind (suc n) so_far s)
      (behind_more n so_far s x first) (entries_back n (order x.0) (so_far ++ x.0 ∷ []) x.1))

  module _ (keyword : String) (most : ℕ) (fits : most < 2 ^ 64) (s : Left) where
    abbrev counting : ℕ → List (List ℕ)
    counting = count_fields (codes keyword)

    listed : (n : ℕ × Left) → Begins (line_with counting) s n → (r : List A × Left) → Behind n.0 [] n.1 r → Begins (list_text (codes keyword) fields) s r
    listed n first r h =
        first
        ∙ ap (λ (k : ℕ). line (counting k) ++ n.1.text) (sym h.many ∙ ap length (sym h.all))
        ∙ ap (λ (t : List ℕ). line (counting (length r.0)) ++ t) (h.begins ∙ ap (λ (xs : List A). flat_map (line_with fields) xs ++ r.1.text) (sym h.all))
        ∙ sym (append_assoc (line (counting (length r.0))) (flat_map (line_with fields) r.0) r.1.text)

    list_back : Gives (Begins (list_text (codes keyword) fields) s) (a_list says order keyword most s)
    list_back =
        gives_then (Begins (line_with counting) s) _ (a_line (two (count_line (codes keyword) most)) s) _ (line_back counting (two (count_line (codes keyword) most)) (count_back (codes keyword) most fits) s) (λ n first.
        IfOk-weaker (entries says order n.0 0 [] n.1) (Behind n.0 [] n.1) (Begins (list_text (codes keyword) fields) s) (listed n first) (entries_back n.0 0 [] n.1))

abbrev IsEnd : Left → Unit {0} × Left → Type 0
IsEnd s x = s.text ≡ line end_fields

the_end_back : (s : Left) → Gives (IsEnd s) (the_end s)
the_end_back s =
    gives_then (Begins (line_with only_end) s) _ (a_line (one end_line) s) _ (line_back only_end (one end_line) end_back s) (λ x first.
    gives_then (λ _. length x.1.text ≡ 0) _ (finished x.1) _ (gives_cond _ (eqb (length x.1.text) 0) _ _ (λ t. eqb-true _ _ t)) (λ _ none.
    first ∙ ap (λ (t : List ℕ). line end_fields ++ t) (nil_from_length x.1.text none)))

-- the parts of a text, one behind the other
whole : (a b c d e f g : List ℕ) {t0 t1 t2 t3 t4 t5 t6 : List ℕ} → t0 ≡ a ++ t1 → t1 ≡ b ++ t2 → t2 ≡ c ++ t3 → t3 ≡ d ++ t4 → t4 ≡ e ++ t5 → t5 ≡ f ++ t6 → t6 ≡ g → (a ++ (b ++ c)) ++ (d ++ (e ++ (f ++ g))) ≡ t0
whole a b c d e f g h1 h2 h3 h4 h5 h6 h7 =
    let rest = h4 ∙ ap (λ (t : List ℕ). d ++ t) (h5 ∙ ap (λ (t : List ℕ). e ++ t) (h6 ∙ ap (λ (t : List ℕ). f ++ t) h7)) in
    let all = h1 ∙ ap (λ (t : List ℕ). a ++ t) (h2 ∙ ap (λ (t : List ℕ). b ++ t) (h3 ∙ ap (λ (t : List ℕ). c ++ t) rest)) in
    append_assoc a (b ++ c) (d ++ (e ++ (f ++ g))) ∙ ap (λ (t : List ℕ). a ++ t) (append_assoc b c (d ++ (e ++ (f ++ g)))) ∙ sym all

text_back : (text : List ℕ) → Gives (λ r. text_of r ≡ text) (reading text)
unfolding rendered
text_back text =
    let s : Left = record { line = 1; text = text } in
    gives_inside (λ x t. Begins (line_with place_fields) s (x, t)) _ section.Head _ _ (line_back place_fields (four period_line) period_back s) (λ place s1 h1.
    gives_inside (λ x t. Begins (line_with day_ahead_fields) s1 (x, t)) _ section.Head _ _ (line_back day_ahead_fields (three day_ahead_line) day_ahead_back s1) (λ price s2 h2.
    gives_inside (λ x t. Begins (line_with forced_fields) s2 (x, t)) _ section.Head _ _ (line_back forced_fields (four forced_line) forced_back s2) (λ forced s3 h3.
    gives_inside (λ x t. Begins (list_text (codes "OFFERS") offer_fields) s3 (x, t)) _ section.Offers _ _ (list_back offer_fields (λ _. eight offer_line) (λ _. 0) (λ _. offer_back) "OFFERS" 24 (omega arith) s3) (λ offers s4 h4.
    gives_inside (λ x t. Begins (list_text (codes "UNITS") unit_fields) s4 (x, t)) _ section.Units _ _ (list_back unit_fields (λ before. four (unit_line before)) (λ u. u.unit) unit_back "UNITS" 16 (omega arith) s4) (λ units s5 h5.
    gives_inside (λ x t. Begins (list_text (codes "GROUPS") group_fields) s5 (x, t)) _ section.Groups _ _ (list_back group_fields (λ before. four (group_line before)) (λ g. g.party) group_back "GROUPS" 16 (omega arith) s5) (λ groups s6 h6.
    gives_inside (λ x t. IsEnd s6 (x, t)) _ section.End _ _ (the_end_back s6) (λ _ _ h7.
    whole (line (place_fields place)) (line (day_ahead_fields price)) (line (forced_fields forced)) (list_text (codes "OFFERS") offer_fields offers) (list_text (codes "UNITS") unit_fields units) (list_text (codes "GROUPS") group_fields groups) (line end_fields) h1 h2 h3 h4 h5 h6 h7)))))))

pub read_is_written_back : ReadIsWrittenBack
read_is_written_back text r e = given (λ r. text_of r ≡ text) (reading text) r (text_back text) e
