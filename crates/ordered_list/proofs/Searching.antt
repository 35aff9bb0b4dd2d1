-- What a search among rising ranks finds is what the entries show.
use Rattle.std.proofs.Common.{◌≡◌, ℕ, zero, suc, ◌<◌, ◌≤◌, List, [], ◌∷◌, length, get_or, Some, None, Result, Ok, Err, refl, sym, ap, ◌∙◌, ⊎_elim, arith}
use Rattle.std.specs.List.Sorted.{IsSearchInRange, IsBinarySearchResult, IsNonDecreasingBy}
use Rattle.std.specs.Ordering.{nat_cmp, ordering_index}
use Rattle.std.specs.Result.{result_ok}
use lib.ListN.{length-map}
use Rattle.std.proofs.lemmas.List.{get_or-map}
use Rattle.std.proofs.lemmas.Cmp.{ranked}
use Rattle.std.proofs.lemmas.Bool.Decides.{nat_tests}
use Rattle.std.proofs.lemmas.Bool.{cases_eq, cases_lt, cases_order, cond-true, cond-false, eq-eqb, ne_eqb}
use Rattle.ordered_list.specs.declared.entry.Entry.{Entry}
use Rattle.ordered_list.specs.Entries.{ranks, value_at}
use Rattle.ordered_list.specs.Finding.{Here, Before, Found}
use Rattle.ordered_list.specs.Order.{Rising}

-- a rank that stands nowhere shows none
pub missing_shown : {V : Type 0} (es : List (Entry V)) (rank : ℕ) → ((k : ℕ) → k < length es → get_or (ranks es) k 0 ≡ rank → ⊥) → value_at es rank ≡ None
missing_shown [] rank h = refl
missing_shown (x ∷ es) rank h = cond-false _ _ _ (ne_eqb rank x.rank (λ e. h 0 (omega arith) (sym e))) ∙ missing_shown es rank (λ k lt. h (suc k) (omega arith))

-- the first place of a rank shows its value
hit_shown : {V : Type 0} (es : List (Entry V)) (rank at : ℕ) (d : Entry V) → at < length es → get_or (ranks es) at 0 ≡ rank → ((k : ℕ) → k < at → get_or (ranks es) k 0 ≡ rank → ⊥) → value_at es rank ≡ Some (get_or es at d).value
hit_shown [] rank at d lt is h = absurd (omega arith)
hit_shown (x ∷ es) rank zero d lt is h = cond-true _ _ _ (eq-eqb rank x.rank (sym is))
hit_shown (x ∷ es) rank (suc at) d lt is h = cond-false _ _ _ (ne_eqb rank x.rank (λ e. h 0 (omega arith) (sym e))) ∙ hit_shown es rank at d (omega arith) is (λ k l. h (suc k) (omega arith))

pub before_apart : (ks : List ℕ) (rank at : ℕ) → Before ks rank at → (k : ℕ) → k < length ks → get_or ks k 0 ≡ rank → ⊥
before_apart ks rank at b k lt e = ⊎_elim (λ low. omega (arith, b.below k low)) (λ high. omega (arith, b.above k high lt)) (cases_lt k at)

pub here_alone : (ks : List ℕ) (rank at : ℕ) → Rising ks → Here ks rank at → (k : ℕ) → k < length ks → get_or ks k 0 ≡ rank → k ≡ at
here_alone ks rank at up h k lt e =
    let is = h.is in
    ⊎_elim
    (λ (same : k ≡ at). same)
    (λ o.
    ⊎_elim
    (λ (low : k < at). absurd (omega (arith, up k at low h.inside)))
    (λ (high : at < k). absurd (omega (arith, up at k high lt)))
    o)
    (cases_order k at)

module _ {V : Type 0} (es : List (Entry V)) where
  pub length_ranks : length (ranks es) ≡ length es
  length_ranks = length-map es (λ e. e.rank)

  pub rank_read : (i : ℕ) (d : Entry V) → i < length es → get_or (ranks es) i 0 ≡ (get_or es i d).rank
  rank_read i d lt = get_or-map (λ e. e.rank) es i d 0 lt

  pub none_shown : (rank at : ℕ) → Before (ranks es) rank at → None ≡ value_at es rank
  none_shown rank at b = sym (missing_shown es rank (λ k lt. before_apart (ranks es) rank at b k (omega (arith, length_ranks))))

  pub some_shown : (rank at : ℕ) (d : Entry V) → Rising (ranks es) → Here (ranks es) rank at → Some (get_or es at d).value ≡ value_at es rank
  some_shown rank at d up h =
      let inside = h.inside in
      sym (hit_shown es rank at d (omega (arith, length_ranks)) h.is (λ k lt e. omega (arith, here_alone (ranks es) rank at up h k (omega arith) e)))

-- where the ranks rise, so do their comparisons with a rank, as a binary search asks
comparisons_rise : {V : Type 0} (es : List (Entry V)) (rank : ℕ) → Rising (ranks es) → IsNonDecreasingBy (λ e. ordering_index (nat_cmp e.rank rank)) es
comparisons_rise es rank up i j d le inside =
    let low = rank_read es i d (omega arith) in
    let high = rank_read es j d inside in
    let size = length_ranks es in
    let rises : (get_or es i d).rank ≤ (get_or es j d).rank = ⊎_elim
    (λ (e : i ≡ j). omega (arith, ap (λ (k : ℕ). (get_or es k d).rank) e))
    (λ ne. omega (arith, up i j (omega arith) (omega arith)))
    (cases_eq i j) in
    grind (arith, nat_tests)

-- an entry of a list that has one
some_entry : {V : Type 0} (es : List (Entry V)) (k : ℕ) → k < length es → Entry V
some_entry [] k lt = absurd (omega arith)
some_entry (e ∷ es) k lt = e

-- where the ranks rise, a binary search by rank ends where the rank stands, or would stand
pub searched : {V : Type 0} (es : List (Entry V)) (rank : ℕ) (r : Result ℕ ℕ) → Rising (ranks es) → IsSearchInRange r (length es) → IsBinarySearchResult (λ e. nat_cmp e.rank rank) es r → Found es rank r
searched es rank (Ok at) up inside equal =
    let e = some_entry es at inside in
    record { inside = omega (arith, length_ranks es); is = rank_read es at e inside ∙ ranked _ rank _ (sym (equal e)) }
searched es rank (Err at) up inside parted =
    let split = parted (comparisons_rise es rank up) in
    let size = length_ranks es in
    record {
      inside = omega arith;
      below = λ k lt.
          let within : k < length es = omega arith in
          let e = some_entry es k within in
          omega (arith, rank_read es k e within, ranked _ rank _ (sym (split.0 k e (omega arith) lt)));
      above = λ k le lt.
          let within : k < length es = omega arith in
          let e = some_entry es k within in
          omega (arith, rank_read es k e within, ranked _ rank _ (sym (split.1 k e le within)));
    }

-- an answer whose value is taken has it
pub taken : (r : Result ℕ ℕ) (at : ℕ) → Some at ≡ result_ok r → r ≡ Ok at
taken (Ok k) at e = cc
taken (Err k) at e = cc

pub not_taken : (r : Result ℕ ℕ) → None ≡ result_ok r → (at : ℕ) × (r ≡ Err at)
not_taken (Ok k) e = cc
not_taken (Err k) e = (k, refl)
