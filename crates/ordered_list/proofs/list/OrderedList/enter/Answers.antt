-- A value is entered where its rank belongs.
use Rattle.std.proofs.Common.{length, ap, ◌∙◌, arith, length-take}
use Rattle.std.proofs.lemmas.List.Edits.{length-insert}
use Rattle.ordered_list.specs.Listings.{entries, listing, entry_answer, entered}
use Rattle.ordered_list.specs.declared.entry.EntryRefusal.TheVariants.{Present, Full}
use Rattle.ordered_list.proofs.Changing.{refused_present, refused_full, entry_granted, not_entered, is_entered}
use Rattle.ordered_list.proofs.Searching.{length_ranks, some_shown, none_shown}
use Rattle.ordered_list.proofs.Shifting.{let_in_shows}
use Rattle.ordered_list.proofs.list.OrderedList.enter.Goals as goal

pub returns-in_default : goal.returns-in_default
returns-in_default g c =
    let list = c.args.self.now in
    let l = listing list in
    let rank = c.rank-rank.result in
    let refused = refused_present l rank _ (some_shown (entries list) rank _ (record { rank = 0; value = c.args.value }) list.ordered c.in_default.ensures) in
    record {
      answer = refused ∙ ap (entry_answer l) c.rank-rank.ensures;
      after = not_entered l rank Present c.args.value refused ∙ ap (λ r. entered l r c.args.value) c.rank-rank.ensures;
    }

pub returns-then-self : goal.returns-then-self
returns-then-self g c =
    let list = c.args.self.now in
    let l = listing list in
    let rank = c.rank-rank.result in
    let refused = refused_full l rank (none_shown (entries list) rank _ c.in-Err.ensures) (omega (arith, c.if-self.true, length-take list.count list.memory.now)) in
    record {
      answer = refused ∙ ap (entry_answer l) c.rank-rank.ensures;
      after = not_entered l rank Full c.args.value refused ∙ ap (λ r. entered l r c.args.value) c.rank-rank.ensures;
    }

pub returns : goal.returns
returns g c =
    let list = c.args.self.now in
    let l = listing list in
    let rank = c.rank-rank.result in
    let es = entries list in
    let granted = entry_granted l rank (none_shown es rank _ c.in-Err.ensures) (λ e. c.if-self.false (omega (arith, e, list.within, length-take list.count list.memory.now))) in
    record {
      answer = granted ∙ ap (entry_answer l) c.rank-rank.ensures;
      after =
          is_entered l rank (listing c.insert.new.self) c.args.value granted
          (let_in_shows es (entries c.insert.new.self) rank c.in-Err.at c.args.value c.insert.ensures.entries c.in-Err.ensures)
          (ap length c.insert.ensures.entries ∙ length-insert es c.in-Err.at _ (omega (arith, length_ranks es, c.in-Err.ensures.inside)))
          c.insert.ensures.places
          ∙ ap (λ r. entered l r c.args.value) c.rank-rank.ensures;
    }
