-- Entries shifted to let one in, or to close the gap that one leaves, stay in order and show one change.
use Rattle.std.proofs.Common.{◌≡◌, ℕ, zero, suc, ◌+◌, ◌-◌, ◌<◌, ◌≤◌, Bool, true, false, cond, eqb, List, [], ◌∷◌, ◌++◌, map, length, get_or, take, drop, Some, None, refl, sym, ap, ◌∙◌, subst, ⊎_elim, arith}
use Rattle.std.specs.Map.{update}
use Rattle.std.specs.List.{insert, remove}
use Rattle.std.proofs.lemmas.List.{length-take, get_or-take, take-map, drop-map, map-append}
use Rattle.std.proofs.lemmas.List.Edits.{length-insert, get_or-insert_below, get_or-insert_at, get_or-insert_above, length-remove, get_or-remove_below, get_or-remove_above}
use Rattle.std.proofs.lemmas.Bool.{cases_eq, cases_lt, cases_order, cond-true, cond-false, eq-eqb, ne_eqb, eqb-true}
use Rattle.std.proofs.lemmas.Cmp.{nat_eq_equiv}
use Rattle.ordered_list.specs.declared.entry.Entry.{Entry}
use Rattle.ordered_list.specs.Entries.{ranks, value_at}
use Rattle.ordered_list.specs.Finding.{Here, Before}
use Rattle.ordered_list.specs.Order.{Rising}
use Rattle.ordered_list.proofs.Searching.{missing_shown, here_alone, length_ranks}

-- two choices that are not both made can be made in either order
swapped : {X : Type 0} (a b : Bool) (x y z : X) → (a ≡ true → b ≡ true → ⊥) → cond b x (cond a y z) ≡ cond a y (cond b x z)
swapped true true x y z h = absurd (h refl refl)
swapped true false x y z h = refl
swapped false b x y z h = refl

module _ {X Y : Type 0} (f : X → Y) (xs : List X) (at : ℕ) where
  map_inserted : (x : X) → map f (insert xs at x) ≡ insert (map f xs) at (f x)
  map_inserted x =
      map-append f (take at xs) (x ∷ drop at xs)
      ∙ ap (λ z. z ++ f x ∷ map f (drop at xs)) (sym (take-map f at xs))
      ∙ ap (λ z. take at (map f xs) ++ f x ∷ z) (sym (drop-map f at xs))

  map_removed : map f (remove xs at) ≡ remove (map f xs) at
  map_removed =
      map-append f (take at xs) (drop (suc at) xs)
      ∙ ap (λ z. z ++ map f (drop (suc at) xs)) (sym (take-map f at xs))
      ∙ ap (λ z. take at (map f xs) ++ z) (sym (drop-map f (suc at) xs))

-- ranks with one put among them where it belongs
module _ (ks : List ℕ) (rank at : ℕ) (b : Before ks rank at) where
  put_low : (k : ℕ) → k < at → get_or (insert ks at rank) k 0 ≡ get_or ks k 0
  put_low k h = get_or-insert_below ks at rank 0 k h b.inside

  put_at : (k : ℕ) → k ≡ at → get_or (insert ks at rank) k 0 ≡ rank
  put_at k e = ap (λ (z : ℕ). get_or (insert ks at rank) z 0) e ∙ get_or-insert_at ks at rank 0 b.inside

  put_high : (k : ℕ) → at < k → get_or (insert ks at rank) k 0 ≡ get_or ks (k - 1) 0
  put_high k h =
      let e : k ≡ k - 1 + 1 = omega arith in
      ap (λ (z : ℕ). get_or (insert ks at rank) z 0) e ∙ get_or-insert_above ks at rank 0 (k - 1) (omega arith) b.inside

  rising_inserted : Rising ks → Rising (insert ks at rank)
  rising_inserted up x y lt inside =
      let size = length-insert ks at rank b.inside in
      ⊎_elim
      (λ (xi : x ≡ at).
      let iy : at < y = omega arith in
      omega (arith, put_at x xi, put_high y iy, b.above (y - 1) (omega arith) (omega (arith, size))))
      (λ o.
      ⊎_elim
      (λ (xi : x < at).
      ⊎_elim
      (λ (yi : y ≡ at). omega (arith, put_low x xi, put_at y yi, b.below x xi))
      (λ p.
      ⊎_elim
      (λ (yi : y < at). omega (arith, put_low x xi, put_low y yi, up x y lt (omega (arith, b.inside))))
      (λ (iy : at < y). omega (arith, put_low x xi, put_high y iy, b.below x xi, b.above (y - 1) (omega arith) (omega (arith, size))))
      p)
      (cases_order y at))
      (λ (ix : at < x).
      let iy : at < y = omega arith in
      omega (arith, put_high x ix, put_high y iy, up (x - 1) (y - 1) (omega arith) (omega (arith, size))))
      o)
      (cases_order x at)

-- ranks with one taken out
module _ (ks : List ℕ) (at : ℕ) (here : at < length ks) where
  cut_low : (k : ℕ) → k < at → get_or (remove ks at) k 0 ≡ get_or ks k 0
  cut_low k h = get_or-remove_below ks at 0 k h here

  cut_high : (k : ℕ) → at ≤ k → get_or (remove ks at) k 0 ≡ get_or ks (k + 1) 0
  cut_high k h = get_or-remove_above ks at 0 k h here

  rising_removed : Rising ks → Rising (remove ks at)
  rising_removed up x y lt inside =
      let size = length-remove ks at here in
      ⊎_elim
      (λ (xi : x < at).
      ⊎_elim
      (λ (yi : y < at). omega (arith, cut_low x xi, cut_low y yi, up x y lt (omega arith)))
      (λ (iy : at ≤ y). omega (arith, cut_low x xi, cut_high y iy, up x (y + 1) (omega arith) (omega (arith, size))))
      (cases_lt y at))
      (λ (ix : at ≤ x).
      let iy : at ≤ y = omega arith in
      omega (arith, cut_high x ix, cut_high y iy, up (x + 1) (y + 1) (omega arith) (omega (arith, size))))
      (cases_lt x at)

module _ {V : Type 0} where
  inserted_shows : (es : List (Entry V)) (e : Entry V) (at q : ℕ) → at ≤ length es → ((k : ℕ) → k < at → get_or (ranks es) k 0 ≡ e.rank → ⊥) → value_at (insert es at e) q ≡ cond (eqb e.rank q) (Some e.value) (value_at es q)
  inserted_shows es e zero q le h = ap (λ b. cond b (Some e.value) (value_at es q)) (nat_eq_equiv.symm q e.rank)
  inserted_shows [] e (suc at) q le h = absurd (omega arith)
  inserted_shows (x ∷ es) e (suc at) q le h =
      ap (cond (eqb q x.rank) (Some x.value)) (inserted_shows es e at q (omega arith) (λ k lt. h (suc k) (omega arith)))
      ∙ swapped (eqb e.rank q) (eqb q x.rank) (Some x.value) (Some e.value) (value_at es q) (λ a b. h 0 (omega arith) (sym (eqb-true e.rank q a ∙ eqb-true q x.rank b)))

  removed_shows : (es : List (Entry V)) (rank at q : ℕ) → at < length es → get_or (ranks es) at 0 ≡ rank → ((k : ℕ) → k < length es → get_or (ranks es) k 0 ≡ rank → k ≡ at) → value_at (remove es at) q ≡ cond (eqb rank q) None (value_at es q)
  removed_shows [] rank at q lt is h = absurd (omega arith)
  removed_shows (x ∷ es) rank zero q lt is h =
      ⊎_elim
      (λ (e : rank ≡ q). missing_shown es q (λ k l s. omega (arith, h (suc k) (omega arith) (s ∙ sym e))) ∙ sym (cond-true _ _ _ (eq-eqb rank q e)))
      (λ ne. sym (cond-false _ _ _ (ne_eqb q x.rank (λ e. ne (sym (e ∙ is))))) ∙ sym (cond-false _ _ _ (ne_eqb rank q ne)))
      (cases_eq rank q)
  removed_shows (x ∷ es) rank (suc at) q lt is h =
      ap (cond (eqb q x.rank) (Some x.value)) (removed_shows es rank at q (omega arith) is (λ k l s. omega (arith, h (suc k) (omega arith) s)))
      ∙ swapped (eqb rank q) (eqb q x.rank) (Some x.value) None (value_at es q) (λ a b. omega (arith, h 0 (omega arith) (sym (eqb-true rank q a ∙ eqb-true q x.rank b))))

module _ {V : Type 0} (es fs : List (Entry V)) (rank at : ℕ) where
  -- the entries after one is let in
  module _ (value : V) (is : fs ≡ insert es at (record { rank = rank; value = value })) (b : Before (ranks es) rank at) where
    let_in_ranks : ranks fs ≡ insert (ranks es) at rank
    let_in_ranks = ap (map (λ x. x.rank)) is ∙ map_inserted (λ x. x.rank) es at (record { rank = rank; value = value })

    pub let_in_rises : Rising (ranks es) → Rising (ranks fs)
    let_in_rises up = subst Rising (sym let_in_ranks) (rising_inserted (ranks es) rank at b up)

    pub let_in_shows : (q : ℕ) → value_at fs q ≡ update eqb (value_at es) rank (Some value) q
    let_in_shows q =
        ap (λ l. value_at l q) is
        ∙ inserted_shows es (record { rank = rank; value = value }) at q (omega (arith, b.inside, length_ranks es)) (λ k lt e. omega (arith, b.below k lt, e))

  -- the entries after one is taken out
  module _ (is : fs ≡ remove es at) (up : Rising (ranks es)) (h : Here (ranks es) rank at) where
    taken_out_ranks : ranks fs ≡ remove (ranks es) at
    taken_out_ranks = ap (map (λ x. x.rank)) is ∙ map_removed (λ x. x.rank) es at

    pub taken_out_rises : Rising (ranks fs)
    taken_out_rises = subst Rising (sym taken_out_ranks) (rising_removed (ranks es) at h.inside up)

    pub taken_out_shows : (q : ℕ) → value_at fs q ≡ update eqb (value_at es) rank None q
    taken_out_shows q =
        ap (λ l. value_at l q) is
        ∙ removed_shows es rank at q (omega (arith, h.inside, length_ranks es)) h.is (λ k lt. here_alone (ranks es) rank at up h k (omega (arith, length_ranks es)))

-- the first of entries that rise also rise
pub fewer_rise : {V : Type 0} (es : List (Entry V)) (m n : ℕ) → m ≤ n → Rising (ranks (take n es)) → Rising (ranks (take m es))
fewer_rise es m n le up x y lt inside =
    let ks = ranks es in
    let size : length (ranks (take m es)) ≤ length (ranks (take n es)) = omega (arith, length_ranks (take m es), length_ranks (take n es), length-take m es, length-take n es) in
    let bound : y < m = omega (arith, length_ranks (take m es), length-take m es) in
    let read : (l k : ℕ) → k < l → get_or (ranks (take l es)) k 0 ≡ get_or ks k 0 = λ l k below. ap (λ (zs : List ℕ). get_or zs k 0) (sym (take-map (λ e. e.rank) l es)) ∙ get_or-take l ks k 0 below in
    omega (arith, read m x (omega arith), read m y bound, read n x (omega arith), read n y (omega arith), up x y lt (omega arith))
