-- A text put in two parts is put as a whole.
use Rattle.std.proofs.Common.{◌≡◌, ℕ, ◌+◌, Bool, true, false, cond, leb, List, ◌++◌, length, is_ok, Result, sym, ap, ◌∙◌, append_assoc, arith, length-append}
use Rattle.std.proofs.lemmas.Bool.{false≢true, leb-false, lt-leb}
use Rattle.text_buffer.specs.Texts.{Puts}

module _ {X Y E F : Type 0} (N : ℕ) (x y : List ℕ) {a b c : List ℕ} {r : Result X E} {s : Result Y F} where
  pub both_put : is_ok r ≡ true → Puts N x a b r → Puts N y b c s → Puts N (x ++ y) a c s
  both_put ok p q =
      let here = p.after ok in
      let long : length b + length y ≡ length a + length (x ++ y) = omega (arith, ap length here, length-append a x, length-append x y) in
      record {
        fits = q.fits ∙ ap (λ n. leb n N) long;
        after = λ done. q.after done ∙ ap (λ t. t ++ y) here ∙ append_assoc a x y;
      }

  pub first_refused : is_ok r ≡ false → is_ok s ≡ false → Puts N x a b r → Puts N (x ++ y) a c s
  first_refused no_room refused p =
      let past = leb-false (length a + length x) N (sym p.fits ∙ no_room) in
      record {
        fits = refused ∙ sym (lt-leb _ _ (omega (arith, past, length-append x y)));
        after = λ done. absurd (false≢true (sym refused ∙ done));
      }

-- what `put` ensures, in the form of a text of many parts
pub put_whole : {X E : Type 0} (N : ℕ) {x a b : List ℕ} {r : Result X E} → is_ok r ≡ leb (length a + length x) N → b ≡ cond (is_ok r) (a ++ x) a → Puts N x a b r
put_whole N {x} {a} {b} {r} fits e = record {
  fits = fits;
  after = λ done. e ∙ ap (λ (t : Bool). cond t (a ++ x) a) done;
}
