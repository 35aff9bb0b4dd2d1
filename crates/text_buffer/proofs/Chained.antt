-- Texts put part by part, or item by item, are put as a whole.
use Rattle.std.proofs.Common.{◌≡◌, ℕ, ◌+◌, ◌<◌, ◌≤◌, true, false, leb, List, ◌++◌, length, get_or, take, is_ok, Result, sym, ap, ◌∙◌, append_assoc, arith, length-append}
use Rattle.std.specs.List.{flat_map}
use Rattle.std.proofs.lemmas.Bool.{false≢true, leb-false, le-leb, lt-leb}
use Rattle.std.proofs.lemmas.List.{take_all}
use Rattle.std.proofs.lemmas.List.Folds.{length-flat_map-take}
use Rattle.text_buffer.specs.Texts.{Puts}

-- at each exit of a function that puts up to seven parts: `search (rules, chained)`
pub ruleset chained = (append_assoc, length-append)

-- in a loop that puts the text of each item, those before i are put, and the next one does not fit
pub each_refused : {X T E : Type 0} (text : X → List ℕ) (xs : List X) (before : List ℕ) (i : ℕ) (now : List ℕ) (N : ℕ) (x d : X) (later : List ℕ) (r : Result T E) → now ≡ before ++ flat_map text (take i xs)
    → i < length xs → x ≡ get_or xs i d → is_ok r ≡ false → false ≡ leb (length now + length (text x)) N → Puts N (flat_map text xs) before later r
each_refused text xs before i now N x d later r so_far lt is refused e =
    let past = leb-false (length now + length (text x)) N (sym e) in
    let all = length-flat_map-take text xs i d lt in
    let here = ap length so_far ∙ length-append before (flat_map text (take i xs)) in
    let same = ap (λ y. length (text y)) is in
    record {
      fits = refused ∙ sym (lt-leb _ _ (omega arith));
      after = λ ok. absurd (false≢true (sym refused ∙ ok));
    }

-- and once all are put, the loop ends
pub each_put : {X T E : Type 0} (text : X → List ℕ) (xs : List X) (before : List ℕ) (i : ℕ) (now : List ℕ) (N : ℕ) (r : Result T E) → now ≡ before ++ flat_map text (take i xs)
    → length xs ≤ i → length now ≤ N → is_ok r ≡ true → Puts N (flat_map text xs) before now r
each_put text xs before i now N r so_far le within ok =
    let all : now ≡ before ++ flat_map text xs = so_far ∙ ap (λ ys. before ++ flat_map text ys) (take_all i xs le) in
    record {
      fits = ok ∙ sym (le-leb _ _ (omega (arith, ap length all, length-append before (flat_map text xs))));
      after = λ _. all;
    }
