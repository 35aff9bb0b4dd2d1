-- How many prices are shown after changes.
use Rattle.std.proofs.Common.{◌≡◌, ℕ, ◌+◌, ◌<◌, Bool, true, false, cond, ◌&&◌, ◌||◌, eqb, List, [], ◌∷◌, is_some, Option, refl, ap, ◌∙◌, ⊎_elim, arith}
use Rattle.std.specs.Map.{update}
use Rattle.std.proofs.lemmas.Bool.{cases_Bool}
use Rattle.std.proofs.lemmas.Cmp.{nat_eq_equiv}
use Rattle.price_history.specs.Keys.{span}
use Rattle.price_history.specs.Views.{tallied}
use Rattle.price_history.proofs.Tallies.{one, tallied_same, tallied_update}
use Rattle.measures.specs.declared.price.Price.{Price}
use Rattle.pricing.specs.Changes.{Change}
use Rattle.price_changes.specs.Changed.{touched, overlaid, changed}
use Rattle.price_changes.specs.Counts.{counted, struck_count, entered_count}
use Rattle.price_changes.specs.Laws.{ChangesAreCounted}
use Rattle.price_changes.proofs.Apart.{Off, Apart, apart_from}
use Rattle.price_changes.proofs.Overlay.{Shown, none, overlaid_off}

-- how many of the picked changes have a price by o
abbrev pub shown_by : (Change → Bool) → (Change → Option Price) → List Change → ℕ
shown_by picked o cs = counted (λ c. picked c && is_some (o c)) cs

module _ (picked : Change → Bool) (told : Change → Option Price) (f : Shown) where
  abbrev rest : List Change → Shown
  rest cs = overlaid picked told f cs

  one_more : (c : Change) (cs : List Change) → c.rank < span → Off c.rank cs → (b : Bool) → picked c ≡ b →
      tallied (rest (c ∷ cs)) span + cond (b && is_some (f c.rank)) 1 0 ≡ tallied (rest cs) span + cond (b && is_some (told c)) 1 0
  one_more c cs below off true e =
      let same = tallied_same (rest (c ∷ cs)) (update eqb (rest cs) c.rank (told c)) span (λ q _. ap (λ b. cond (b && eqb q c.rank) (told c) (rest cs q)) e ∙ ap (λ b. cond b (told c) (rest cs q)) (nat_eq_equiv.symm q c.rank)) in
      let was : one (rest cs c.rank) ≡ one (f c.rank) = ap one (overlaid_off picked told c.rank f cs off) in
      omega (arith, same, was, tallied_update (rest cs) c.rank (told c) span below)
  one_more c cs below off false e =
      let same = tallied_same (rest (c ∷ cs)) (rest cs) span (λ q _. ap (λ b. cond (b && eqb q c.rank) (told c) (rest cs q)) e) in
      omega (arith, same)

  pub overlaid_count : (cs : List Change) → Apart cs → tallied (rest cs) span + shown_by picked (λ c. f c.rank) cs ≡ tallied f span + shown_by picked told cs
  overlaid_count [] apart = omega arith
  overlaid_count (c ∷ cs) apart =
      let first = one_more c cs apart.0 apart.1 (picked c) refl in
      omega (arith, first, overlaid_count cs apart.2)

abbrev bit : Bool → ℕ
bit b = cond b 1 0

-- what is entered is touched
touched_new : (a b : Bool) → ((a || b) && b) ≡ b
touched_new true true = refl
touched_new true false = refl
touched_new false true = refl
touched_new false false = refl

new_count : (cs : List Change) → shown_by touched (λ c. c.new) cs ≡ entered_count cs
new_count [] = refl
new_count (c ∷ cs) =
    let here = ap bit (touched_new (is_some c.old) (is_some c.new)) in
    omega (arith, here, new_count cs)

pub changed_count : (f : Shown) (cs : List Change) → Apart cs → tallied (changed f cs) span + struck_count f cs ≡ tallied f span + entered_count cs
changed_count f cs apart = overlaid_count touched (λ c. c.new) f cs apart ∙ ap (λ n. tallied f span + n) (new_count cs)

none_count : (cs : List Change) → shown_by touched none cs ≡ 0
none_count [] = refl
none_count (c ∷ cs) =
    ⊎_elim
    (λ (e : touched c ≡ true). let here = ap (λ b. bit (b && false)) e in omega (arith, here, none_count cs))
    (λ (e : touched c ≡ false). let here = ap (λ b. bit (b && false)) e in omega (arith, here, none_count cs))
    (cases_Bool (touched c))

pub cleared_count : (f : Shown) (cs : List Change) → Apart cs → tallied (overlaid touched none f cs) span + struck_count f cs ≡ tallied f span
cleared_count f cs apart = omega (arith, overlaid_count touched none f cs apart, none_count cs)

pub changes_are_counted : ChangesAreCounted
changes_are_counted f cs climbs below = changed_count f cs (apart_from cs climbs below)
