-- Only what is shown near enough counts in a mean.
use Rattle.std.proofs.Common.{◌≡◌, ℕ, zero, suc, ◌+◌, ◌-◌, ◌<◌, ◌≤◌, List, [], ◌++◌, length, take, ℤ, Some, None, Option, sym, refl, ap, ◌∙◌, suc-add, zero-add, arith}
use native.Mathlib.Nat.{sub-zero}
use lib.Seq.{take-append-le}
use Rattle.measures.specs.declared.price.Price.{Price}
use Rattle.price_history.specs.declared.series.Series.{Series}
use Rattle.price_history.specs.Laws.{Alike}
use Rattle.price_history.specs.Means.{behind, shown_daily, shown_back, days_before, mean, mean_before}
use Rattle.price_history.specs.Views.{View, empty_view}

module _ (f g : ℕ → Option Price) where
  back_same : (n day : ℕ) → n ≤ day - 1 → ((d : ℕ) → 1 ≤ d → d < day → day ≤ d + n → f d ≡ g d) → shown_back f n day ≡ shown_back g n day
  back_same zero day le alike = refl
  back_same (suc n) day le alike =
      ap (λ o. behind o (shown_back f n (day - 1))) (alike (day - 1) (omega arith) (omega arith) (omega arith))
      ∙ ap (behind (g (day - 1))) (back_same n (day - 1) (omega arith) (λ d from to far. alike d from (omega arith) (omega arith)))

behind_append : (o : Option Price) (ps qs : List ℤ) → behind o (ps ++ qs) ≡ behind o ps ++ qs
behind_append (Some price) ps qs = refl
behind_append None ps qs = refl

-- first the nearer days, then those before them
back_more : (f : ℕ → Option Price) (n m day : ℕ) → shown_back f (n + m) day ≡ shown_back f n day ++ shown_back f m (day - n)
back_more f zero m day = ap (λ k. shown_back f k day) (zero-add m) ∙ ap (shown_back f m) (sym (sub-zero day))
back_more f (suc n) m day =
    let back : day - 1 - n ≡ day - suc n = omega arith in
    ap (λ k. shown_back f k day) (suc-add n m)
    ∙ ap (behind (f (day - 1))) (back_more f n m (day - 1) ∙ ap (λ d. shown_back f n (day - 1) ++ shown_back f m d) back)
    ∙ behind_append (f (day - 1)) (shown_back f n (day - 1)) (shown_back f m (day - suc n))

-- where the n nearest days show thirty prices, no other day counts
thirty_near : (f : ℕ → Option Price) (n all day : ℕ) → n ≤ all → 30 ≤ length (shown_back f n day) → take 30 (shown_back f all day) ≡ take 30 (shown_back f n day)
thirty_near f n all day le enough =
    let parts : all ≡ n + (all - n) = omega arith in
    ap (λ k. take 30 (shown_back f k day)) parts
    ∙ ap (take 30) (back_more f n (all - n) day)
    ∙ take-append-le 30 (shown_back f n day) (shown_back f (all - n) (day - n)) enough

module _ (view other : View) (series : Series) (zone day slot : ℕ) where
  pub same_by_days : Alike view other series zone day slot 90 → mean_before view series zone day slot ≡ mean_before other series zone day slot
  unfolding mean_before
  same_by_days alike =
      ap (λ ps. mean (take 30 ps))
      (back_same (shown_daily view series zone slot) (shown_daily other series zone slot) (days_before day) day (omega arith) (λ d from to far. alike d from to (omega arith)))

  pub same_by_prices : (n : ℕ) → n ≤ days_before day → 30 ≤ length (shown_back (shown_daily view series zone slot) n day) → Alike view other series zone day slot n → mean_before view series zone day slot ≡ mean_before other series zone day slot
  unfolding mean_before
  same_by_prices n le enough alike =
      let mine = shown_daily view series zone slot in
      let yours = shown_daily other series zone slot in
      let same : shown_back mine n day ≡ shown_back yours n day = back_same mine yours n day (omega arith) alike in
      let enough-too : 30 ≤ length (shown_back yours n day) = omega (arith, ap length same) in
      ap mean (thirty_near mine n (days_before day) day le enough ∙ ap (take 30) same ∙ sym (thirty_near yours n (days_before day) day le enough-too))

back_none : (n day : ℕ) → shown_back (λ _. None) n day ≡ []
back_none zero day = refl
back_none (suc n) day = back_none n (day - 1)

pub empty_mean : (series : Series) (zone day slot : ℕ) → mean_before empty_view series zone day slot ≡ None
unfolding mean_before
empty_mean series zone day slot = ap (λ ps. mean (take 30 ps)) (back_none (days_before day) day)
