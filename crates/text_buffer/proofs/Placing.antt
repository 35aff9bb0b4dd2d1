-- A text that is copied to the front of an output, or does not fit it.
use Rattle.std.proofs.Common.{◌≡◌, ℕ, ◌+◌, ◌<◌, ◌≤◌, Bool, true, false, cond, ltb, leb, List, [], ◌++◌, length, drop, is_ok, Some, None, Ok, Err, Result, sym, refl, ap, ◌∙◌, arith}
use Rattle.std.specs.Result.{result_ok}
use Rattle.std.proofs.lemmas.Bool.{false≢true, le-leb, leb-true, leb-false, lt-ltb, le-ltb}
use Rattle.text_buffer.specs.Texts.{Puts, placed}

-- a text that fits an empty page is not refused
pub never_refused : {X E : Type 0} (N : ℕ) {text before later : List ℕ} {r : Result X E} → before ≡ [] → length text ≤ N → is_ok r ≡ false → Puts N text before later r → ⊥
never_refused N {text} {before} empty short refused p = false≢true (sym refused ∙ p.fits ∙ le-leb (length before + length text) N (omega (arith, ap length empty)))

module _ (text out : List ℕ) where
  fitting : (n : ℕ) (b : Bool) → leb (length text) (length out) ≡ b → Some n ≡ cond b (Some (length text)) None → (n ≡ length text) × (length text ≤ length out)
  fitting n true e is = let same : n ≡ length text = cc in (same, leb-true _ _ e)
  fitting n false e is = let z : ◌≡◌ {A = ℕ} 0 1 = cc in absurd (omega arith)

  lacking : (b : Bool) → leb (length text) (length out) ≡ b → None ≡ cond b (Some (length text)) None → length out < length text
  lacking true e is = let z : ◌≡◌ {A = ℕ} 0 1 = cc in absurd (omega arith)
  lacking false e is = leb-false _ _ e

  module _ {E : Type 0} (short : E) where
    pub ok_answer : (n : ℕ) → Some n ≡ cond (leb (length text) (length out)) (Some (length text)) None → Ok n ≡ cond (ltb (length out) (length text)) (Err short) (Ok (length text))
    ok_answer n is =
        let h = fitting n _ refl is in
        ap (λ k. Ok k) h.0 ∙ sym (ap (λ (b : Bool). cond b (Err short) (Ok (length text))) (le-ltb _ _ h.1))

    pub short_answer : None ≡ cond (leb (length text) (length out)) (Some (length text)) None → Err short ≡ cond (ltb (length out) (length text)) (Err short) (Ok (length text))
    short_answer is = sym (ap (λ (b : Bool). cond b (Err short) (Ok (length text))) (lt-ltb _ _ (lacking _ refl is)))

  pub ok_output : (n : ℕ) → Some n ≡ cond (leb (length text) (length out)) (Some (length text)) None → text ++ drop (length text) out ≡ placed text out
  ok_output n is = sym (ap (λ (b : Bool). cond b out (text ++ drop (length text) out)) (le-ltb _ _ (fitting n _ refl is).1))

  pub short_output : None ≡ cond (leb (length text) (length out)) (Some (length text)) None → out ≡ placed text out
  short_output is = sym (ap (λ (b : Bool). cond b out (text ++ drop (length text) out)) (lt-ltb _ _ (lacking _ refl is)))

-- what `copy_to` ensures of the output, whether the text fits or not
pub copied : {E : Type 0} (w text out : List ℕ) {later : List ℕ} (r : Result ℕ E) → w ≡ text → result_ok r ≡ cond (leb (length w) (length out)) (Some (length w)) None → later ≡ cond (is_ok r) (w ++ drop (length w) out) out → later ≡ placed text out
copied w text out (Ok n) e is after = after ∙ ok_output w out n is ∙ ap (λ (t : List ℕ). placed t out) e
copied w text out (Err x) e is after = after ∙ short_output w out is ∙ ap (λ (t : List ℕ). placed t out) e
