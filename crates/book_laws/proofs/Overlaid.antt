-- What a change of a sheet shows.
use Rattle.std.proofs.Common.{◌≡◌, ℕ, Bool, true, false, ◌&&◌, eqb, List, [], ◌∷◌, None, Option, sym, refl, ap, ◌∙◌, ⊎_elim}
use Rattle.std.specs.List.{AllByRecursion}
use Rattle.std.proofs.lemmas.Bool.{false≢true, cases_Bool, cond_both, cond-true, cond-false, eqb-true}
use Rattle.measures.specs.declared.price.Price.{Price}
use Rattle.pricing.specs.Changes.{Change}
use Rattle.price_changes.specs.Changed.{touched, changed}
use Rattle.price_changes.proofs.Overlay.{overlaid_like}

abbrev pub Shown : Type 0
Shown = ℕ → Option Price

abbrev new : Change → Option Price
new c = c.new

at_rank : (a b : Bool) → (a && b) ≡ true → b ≡ true
at_rank true b e = e
at_rank false b e = absurd (false≢true e)

touched_from : (a b : Bool) → (a && b) ≡ true → a ≡ true
touched_from true b e = refl
touched_from false b e = absurd (false≢true e)

-- where the history shows what the newer sheet forms, nothing changes
pub changed_same : (f : Shown) (cs : List Change) → AllByRecursion (λ c. f c.rank ≡ c.new) cs → (r : ℕ) → changed f cs r ≡ f r
changed_same f [] same r = refl
changed_same f (c ∷ cs) same r =
    cond_both (touched c && eqb r c.rank) c.new (changed f cs r) (λ o. o ≡ f r)
    (λ e. sym same.0 ∙ ap f (sym (eqb-true r c.rank (at_rank (touched c) (eqb r c.rank) e))))
    (λ _. changed_same f cs same.1 r)

-- no change is at the rank that would be told there
pub changed_off : (f : Shown) (cs : List Change) (r : ℕ) → AllByRecursion (λ c. r ≡ c.rank → touched c ≡ false) cs → changed f cs r ≡ f r
changed_off f [] r off = refl
changed_off f (c ∷ cs) r off =
    cond_both (touched c && eqb r c.rank) c.new (changed f cs r) (λ o. o ≡ f r)
    (λ e.
    let here = at_rank (touched c) (eqb r c.rank) e in
    absurd (false≢true (sym (off.0 (eqb-true r c.rank here)) ∙ touched_from (touched c) (eqb r c.rank) e)))
    (λ _. changed_off f cs r off.1)

-- one change undoes another, where the history showed nothing at their ranks
abbrev pub Undoes : Shown → List Change → List Change → Type 0
Undoes f [] [] = Unit {0}
Undoes f [] (d ∷ ds) = ⊥
Undoes f (c ∷ cs) [] = ⊥
Undoes f (c ∷ cs) (d ∷ ds) = (c.rank ≡ d.rank) × (touched c ≡ touched d) × (d.new ≡ None) × (f c.rank ≡ None) × Undoes f cs ds

pub undone : (f : Shown) (cs ds : List Change) → Undoes f cs ds → (r : ℕ) → changed (changed f cs) ds r ≡ f r
undone f [] [] back r = refl
undone f [] (d ∷ ds) back r = absurd back
undone f (c ∷ cs) [] back r = absurd back
undone f (c ∷ cs) (d ∷ ds) back r =
    let t = touched c && eqb r c.rank in
    let u = touched d && eqb r d.rank in
    let same : t ≡ u = ap (λ b. b && eqb r c.rank) back.1 ∙ ap (λ k. touched d && eqb r k) back.0 in
    let g = changed f (c ∷ cs) in
    ⊎_elim
    (λ (hit : t ≡ true).
    cond-true u d.new (changed g ds r) (sym same ∙ hit) ∙ back.2
    ∙ sym back.3 ∙ ap f (sym (eqb-true r c.rank (at_rank (touched c) (eqb r c.rank) hit))))
    (λ (miss : t ≡ false).
    cond-false u d.new (changed g ds r) (sym same ∙ miss)
    ∙ overlaid_like touched new r g (changed f cs) ds (cond-false t c.new (changed f cs r) miss)
    ∙ undone f cs ds back.4 r)
    (cases_Bool t)
