-- Entries, with a filler in the places behind them.
use mathlib.Core.HLevel.{is_prop→PathP}
use Rattle.std.proofs.Common.{◌≡◌, ℕ, ◌+◌, ◌-◌, ◌≤◌, List, ◌++◌, length, take, drop, replicate, sym, ap, ◌∙◌, arith}
use native.Mathlib.Nat.{ℕ_set}
use lib.Seq.{take-append-add}
use Rattle.std.proofs.lemmas.List.{drop-replicate, take-replicate}
use Rattle.sheet.specs.declared.entries.Entries.{Entries}
use Rattle.shelf.specs.Packed.{behind, packed}

module _ {T : Type 0} where
  pub all_behind : (n : ℕ) (filler : T) (xs : List T) → length xs ≤ n → xs ++ drop (length xs) (replicate n filler) ≡ behind n filler xs
  all_behind n filler xs within =
      let whole : length xs + (n - length xs) ≡ n = omega arith in
      ap (λ l. xs ++ l) (drop-replicate (length xs) n filler ∙ sym (take-replicate (n - length xs) n filler (omega arith)))
      ∙ sym (take-append-add xs (replicate n filler) (n - length xs))
      ∙ ap (λ k. take k (xs ++ replicate n filler)) whole

  same_entries : {N : ℕ} (x y : Entries T N) → x.items ≡ y.items → x.len ≡ y.len → x ≡ y
  same_entries {N} x y p q = λ i. record { items = p i; len = q i; full = is_prop→PathP (λ j. length (p j) ≡ N) (λ j. ℕ_set (length (p j)) N) x.full y.full i }

  pub is_packed : {N : ℕ} (e : Entries T N) (xs : List T) (filler : T) → length xs ≤ N → e.len ≡ length xs → e.items ≡ xs ++ drop (length xs) (replicate N filler) → e ≡ packed filler xs
  is_packed {N} e xs filler within counted filled = same_entries e (packed filler xs) (filled ∙ all_behind N filler xs within) counted
