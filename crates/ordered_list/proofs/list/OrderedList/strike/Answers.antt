-- The value that is found is taken out.
use Rattle.std.proofs.Common.{◌≡◌, ◌<◌, length, Some, Err, sym, ap, ◌∙◌, arith, rules}
use Rattle.std.specs.Result.{result_ok}
use Rattle.std.proofs.lemmas.List.Edits.{length-remove}
use Rattle.std.proofs.lemmas.Result.{MatchResult-at_ok, MatchResult-at_err}
use Rattle.ordered_list.specs.declared.entry.Entry.{Entry}
use Rattle.ordered_list.specs.declared.entry.StrikeRefusal.TheVariants.{Absent}
use Rattle.ordered_list.specs.Listings.{entries, listing, strike_of, strike_answer, struck}
use Rattle.ordered_list.proofs.Changing.{not_struck, is_struck}
use Rattle.ordered_list.proofs.Searching.{length_ranks, some_shown, none_shown, taken, not_taken}
use Rattle.ordered_list.proofs.Shifting.{taken_out_shows}
use Rattle.ordered_list.proofs.list.OrderedList.strike.Goals as goal

pub returns-in_err-at : goal.returns-in_err-at
returns-in_err-at g c =
    let list = c.args.self.now in
    let l = listing list in
    let rank = c.rank.result in
    let missing = not_taken c.find.result (ap result_ok (sym c.in_err-at.was) ∙ sym c.ok_or.ensures.ok_part ∙ c.ok.ensures.value) in
    let refused = ap strike_of (none_shown (entries list) rank missing.0 (MatchResult-at_err _ _ missing.0 missing.1 c.find.ensures)) in
    let told : c.from_residual.result ≡ Err Absent = search rules in
    record {
      answer = told ∙ refused ∙ ap (strike_answer l) c.rank.ensures;
      after = not_struck l rank Absent refused ∙ ap (struck l) c.rank.ensures;
    }

pub returns : goal.returns
returns g c =
    let list = c.args.self.now in
    let l = listing list in
    let rank = c.rank.result in
    let at = c.in_ok-at.at in
    let es = entries list in
    let found = taken c.find.result at (ap result_ok (sym c.in_ok-at.was) ∙ sym c.ok_or.ensures.ok_part ∙ c.ok.ensures.value) in
    let here = MatchResult-at_ok _ _ at found c.find.ensures in
    let value = c.remove.result in
    let d : Entry _ = record { rank = 0; value = value } in
    let granted = ap strike_of (ap Some (c.remove.ensures.value d) ∙ some_shown es rank at d list.ordered here) in
    record {
      answer = granted ∙ ap (strike_answer l) c.rank.ensures;
      after =
          is_struck l rank (listing c.remove.new.self) value granted
          (taken_out_shows es (entries c.remove.new.self) rank at c.remove.ensures.entries list.ordered here)
          (let inside : at < length es = omega (arith, length_ranks es, here.inside) in omega (arith, ap length c.remove.ensures.entries, length-remove es at inside))
          c.remove.ensures.places
          ∙ ap (struck l) c.rank.ensures;
    }
