-- Digits laid down from the last one on spell a number.
use Rattle.std.proofs.Common.{◌≡◌, ℕ, ◌+◌, ◌/◌, ◌%◌, ◌^◌, ◌<◌, ◌≤◌, List, [], ◌∷◌, ◌++◌, length, decimal, sym, ap, ◌∙◌, append_assoc, arith, length-append}
use Rattle.std.proofs.lemmas.Fmt.{decimal_digit, decimal_is_IsNumeral_wide, decimal_step_wide, length-decimal-le_wide}

pub length_wide : (n : ℕ) → n < 2 ^ 128 → length (decimal n) ≤ 39
length_wide n small = length-decimal-le_wide 39 n (omega arith) (omega arith) (omega arith)

-- the digits of what is left and those that are laid down are the text
module _ (text laid : List ℕ) (rest : ℕ) (small : rest < 2 ^ 128) (so_far : decimal rest ++ laid ≡ text) where
  pub spelt_size : length (decimal rest) + length laid ≡ length text
  spelt_size = sym (length-append (decimal rest) laid) ∙ ap length so_far

  pub spelt_room : length text ≤ 40 → length laid < 40
  spelt_room short = omega (arith, spelt_size, (decimal_is_IsNumeral_wide rest (omega arith)).0.0)

  pub spelt_more : (later : List ℕ) → 10 ≤ rest → later ≡ (48 + rest % 10) ∷ laid → decimal (rest / 10) ++ later ≡ text
  spelt_more later more is =
      ap (λ ds. decimal (rest / 10) ++ ds) is
      ∙ sym (append_assoc (decimal (rest / 10)) ((48 + rest % 10) ∷ []) laid)
      ∙ ap (λ ds. ds ++ laid) (sym (decimal_step_wide rest more (omega arith)))
      ∙ so_far

  pub spelt_all : (later : List ℕ) → rest < 10 → later ≡ (48 + rest) ∷ laid → later ≡ text
  spelt_all later last is = is ∙ ap (λ ds. ds ++ laid) (sym (decimal_digit rest last)) ∙ so_far
