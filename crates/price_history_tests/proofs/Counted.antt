-- How many of the first ranks show something, as the number of those that pass a test.
use Rattle.std.proofs.Common.{◌≡◌, ℕ, zero, suc, Bool, true, false, cond, [], ◌∷◌, map, length, is_some, Option, refl, sym, ap, ◌∙◌, add-one, length-append, arith}
use Rattle.std.specs.List.{filter, range_with_len}
use Rattle.std.proofs.lemmas.List.{map-id}
use Rattle.std.proofs.lemmas.List.FromFn.{filter_of_map_range_with_len_more}
use Rattle.price_history.specs.Views.{tallied}

length-cond : (b : Bool) (k : ℕ) → length (cond b (k ∷ []) []) ≡ cond b 1 0
length-cond true k = refl
length-cond false k = refl

module _ {V : Type 0} (f : ℕ → Option V) where
  counted_map : (n : ℕ) → length (filter (λ k. is_some (f k)) (map (λ (k : ℕ). k) (range_with_len 0 n))) ≡ tallied f n
  unfolding tallied
  counted_map zero = refl
  counted_map (suc n) =
      let shown = λ (m : ℕ). filter (λ k. is_some (f k)) (map (λ (k : ℕ). k) (range_with_len 0 m)) in
      let one = cond (is_some (f n)) (n ∷ []) [] in
      let more = ap length (ap shown (sym (add-one n)) ∙ filter_of_map_range_with_len_more (λ k. is_some (f k)) (λ (k : ℕ). k) 0 n n (omega arith)) in
      omega (arith, more, length-append (shown n) one, length-cond (is_some (f n)) n, counted_map n)

  pub counted : (n : ℕ) → length (filter (λ k. is_some (f k)) (range_with_len 0 n)) ≡ tallied f n
  counted n = ap (λ ks. length (filter (λ k. is_some (f k)) ks)) (sym (map-id (range_with_len 0 n))) ∙ counted_map n
