-- The ten changes of a place, one for each span and direction.
use Rattle.std.proofs.Common.{◌≡◌, ℕ, zero, suc, ◌<◌, ◌≤◌, true, ◌&&◌, eqb, ◌⊎◌, List, [], ◌∷◌, Option, sym, refl, ap, ◌∙◌, inl, inr, ⊎_elim, arith}
use Rattle.std.specs.List.{AllByRecursion}
use Rattle.std.proofs.lemmas.Bool.{cond-true, cond-false, and_from, and_right, eq-eqb, ne_eqb}
use Rattle.price_history.specs.Keys.{span}
use Rattle.price_history.proofs.Apart.{rank_below}
use Rattle.offers.specs.declared.span.Span.{Span}
use Rattle.offers.specs.declared.span.Span.TheVariants.{Quarter, Period}
use Rattle.sheet.specs.Figures.{Figures}
use Rattle.sheet.specs.declared.lines.Direction.{Direction}
use Rattle.sheet.specs.declared.lines.Direction.TheVariants.{Up, Down}
use Rattle.sheet.specs.declared.place.Place.{Place}
use Rattle.pricing.specs.Changes.{Change, change_at, changes_at}
use Rattle.pricing.specs.Keys.{Within}
use Rattle.pricing.proofs.Ordered.{ranks_climb}
use Rattle.price_changes.specs.Changed.{touched, changed}
use Rattle.price_changes.proofs.Apart.{Off, Apart, apart_from}
use Rattle.book.specs.declared.stated.StatedPlace.{StatedPlace}
use Rattle.book_laws.specs.Kept.{IsPlace}
use Rattle.book_laws.proofs.Belongs.{key_at}
use Rattle.book_laws.proofs.Overlaid.{Shown}

module _ (p : StatedPlace) (old new : Option Figures) where
  abbrev pub at : Span → Direction → Change
  at = change_at p.zone p.day p.period old new

  abbrev pub all : List Change
  all = changes_at p.zone p.day p.period old new

  -- what holds of each span and direction holds of each change
  pub for_each : (P : Change → Type 0) → ((s : Span) (d : Direction) → Within s → P (at s d)) → AllByRecursion P all
  for_each P h = (
    h (Quarter 1) Up (omega arith, omega arith),
    (
      h (Quarter 2) Up (omega arith, omega arith),
      (
        h (Quarter 3) Up (omega arith, omega arith),
        (
          h (Quarter 4) Up (omega arith, omega arith),
          (
            h (Quarter 1) Down (omega arith, omega arith),
            (
              h (Quarter 2) Down (omega arith, omega arith),
              (
                h (Quarter 3) Down (omega arith, omega arith),
                (
                  h (Quarter 4) Down (omega arith, omega arith),
                  (h Period Up tt, (h Period Down tt, tt)),
                ),
              ),
            ),
          ),
        ),
      ),
    ),
  )

  pub changes_apart : IsPlace p → Apart all
  changes_apart is =
      let place : Place = record {
        zone = p.zone;
        day = p.day;
        period = p.period;
        zone_from = is.zone_from;
        zone_to = is.zone_to;
        day_from = is.day_from;
        day_to = is.day_to;
        period_from = is.period_from;
        period_to = is.period_to;
      } in
      apart_from all (ranks_climb place old new) (for_each (λ c. c.rank < span) (λ s d w. rank_below (key_at p s d is w)))

abbrev In : Change → List Change → Type 0
In c [] = ⊥
In c (x ∷ xs) = (c ≡ x) ⊎ In c xs

four : (q : ℕ) → 1 ≤ q → q ≤ 4 → (q ≡ 1) ⊎ ((q ≡ 2) ⊎ ((q ≡ 3) ⊎ (q ≡ 4)))
four zero h k = absurd (omega arith)
four (suc zero) h k = inl refl
four (suc (suc zero)) h k = inr (inl refl)
four (suc (suc (suc zero))) h k = inr (inr (inl refl))
four (suc (suc (suc (suc zero)))) h k = inr (inr (inr refl))
four (suc (suc (suc (suc (suc q))))) h k = absurd (omega arith)

off_rank : (c : Change) (r : ℕ) (cs : List Change) → Off r cs → In c cs → r ≡ c.rank → ⊥
off_rank c r [] off here e = here
off_rank c r (x ∷ xs) off here e = ⊎_elim (λ (same : c ≡ x). off.0 (e ∙ ap (λ (y : Change). y.rank) same)) (λ (later : In c xs). off_rank c r xs off.1 later e) here

shown_in : (f : Shown) (c : Change) (cs : List Change) → Apart cs → In c cs → touched c ≡ true → changed f cs c.rank ≡ c.new
shown_in f c [] apart here t = absurd here
shown_in f c (x ∷ xs) apart here t =
    ⊎_elim
    (λ (same : c ≡ x).
    cond-true (touched x && eqb c.rank x.rank) x.new _
    (and_from (touched x) _ (ap touched (sym same) ∙ t) (eq-eqb c.rank x.rank (ap (λ (y : Change). y.rank) same)))
    ∙ ap (λ (y : Change). y.new) (sym same))
    (λ (later : In c xs).
    cond-false (touched x && eqb c.rank x.rank) x.new _
    (and_right (touched x) _ (ne_eqb c.rank x.rank (λ e. off_rank c x.rank xs apart.1 later (sym e))))
    ∙ shown_in f c xs apart.2 later t)
    here

module _ (p : StatedPlace) (old new : Option Figures) where
  abbrev one : Span → Direction → Change
  one = at p old new

  quarter_in : (q : ℕ) (d : Direction) → 1 ≤ q → q ≤ 4 → In (one (Quarter q) d) (all p old new)
  quarter_in q Up h k =
      ⊎_elim (λ (e : q ≡ 1). inl (ap (λ n. one (Quarter n) Up) e))
      (⊎_elim (λ (e : q ≡ 2). inr (inl (ap (λ n. one (Quarter n) Up) e)))
      (⊎_elim (λ (e : q ≡ 3). inr (inr (inl (ap (λ n. one (Quarter n) Up) e))))
      (λ (e : q ≡ 4). inr (inr (inr (inl (ap (λ n. one (Quarter n) Up) e)))))))
      (four q h k)
  quarter_in q Down h k =
      ⊎_elim (λ (e : q ≡ 1). inr (inr (inr (inr (inl (ap (λ n. one (Quarter n) Down) e))))))
      (⊎_elim (λ (e : q ≡ 2). inr (inr (inr (inr (inr (inl (ap (λ n. one (Quarter n) Down) e)))))))
      (⊎_elim (λ (e : q ≡ 3). inr (inr (inr (inr (inr (inr (inl (ap (λ n. one (Quarter n) Down) e))))))))
      (λ (e : q ≡ 4). inr (inr (inr (inr (inr (inr (inr (inl (ap (λ n. one (Quarter n) Down) e)))))))))))
      (four q h k)

  change_in : (s : Span) (d : Direction) → Within s → In (one s d) (all p old new)
  change_in (Quarter q) d w = quarter_in q d w.0 w.1
  change_in Period Up w = inr (inr (inr (inr (inr (inr (inr (inr (inl refl))))))))
  change_in Period Down w = inr (inr (inr (inr (inr (inr (inr (inr (inr (inl refl)))))))))

  -- at the rank of a change that is touched, what the newer sheet forms
  pub shown_at : (f : Shown) (s : Span) (d : Direction) → IsPlace p → Within s → touched (one s d) ≡ true → changed f (all p old new) (one s d).rank ≡ (one s d).new
  shown_at f s d is w t = shown_in f (one s d) (all p old new) (changes_apart p old new is) (change_in s d w) t
