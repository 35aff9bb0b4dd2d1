-- A sheet is put where the history has room for its prices.
use Rattle.std.proofs.Common.{◌≡◌, Bool, true, false, cond, List, is_ok, Ok, Err, sym, refl, ap, ◌∙◌}
use Rattle.std.proofs.lemmas.Bool.{cond-true}
use Rattle.price_history.specs.Views.{View}
use Rattle.pricing.specs.Changes.{Change}
use Rattle.price_changes.specs.Changed.{changed_view, overfull, change_answer, change_after}
use Rattle.price_changes.specs.declared.refusal.ChangeRefusal.{ChangeRefusal}
use Rattle.price_changes.specs.declared.refusal.ChangeRefusal.TheVariants.{Full}
use Rattle.book.proofs.Verdicts.{ok_err}

full_from_err : (b : Bool) (e : ChangeRefusal) → Err e ≡ cond b (Err Full) (Ok (tt {0})) → b ≡ true
full_from_err true e h = refl
full_from_err false e h = ok_err (tt {0}) e (sym h)

room_from_ok : (b : Bool) → Ok (tt {0}) ≡ cond b (Err Full) (Ok (tt {0})) → b ≡ false
room_from_ok true h = ok_err (tt {0}) Full h
room_from_ok false h = refl

module _ (v u : View) (cs ds : List Change) (same : cs ≡ ds) where
  pub full : (e : ChangeRefusal) → Err e ≡ change_answer v cs → overfull (changed_view v ds) ≡ true
  full e answer = ap (λ l. overfull (changed_view v l)) (sym same) ∙ full_from_err (overfull (changed_view v cs)) e answer

  pub record Granted : Type 0 where
    pub room : overfull (changed_view v ds) ≡ false
    pub changed : u ≡ changed_view v ds

  pub granted : Ok (tt {0}) ≡ change_answer v cs → u ≡ change_after v cs → Granted
  granted answer after =
      let room = room_from_ok (overfull (changed_view v cs)) answer in
      record {
        room = ap (λ l. overfull (changed_view v l)) (sym same) ∙ room;
        changed = after ∙ cond-true (is_ok (change_answer v cs)) (changed_view v cs) v (ap is_ok (sym answer)) ∙ ap (changed_view v) same;
      }
