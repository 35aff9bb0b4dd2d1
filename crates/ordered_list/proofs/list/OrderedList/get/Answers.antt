-- What is found is what the list shows.
use Rattle.std.proofs.Common.{get_or, Some, sym, ap, ◌∙◌}
use Rattle.std.proofs.lemmas.Result.{MatchResult-at_ok, MatchResult-at_err}
use Rattle.ordered_list.specs.Entries.{value_at}
use Rattle.ordered_list.specs.Listings.{entries}
use Rattle.ordered_list.proofs.Searching.{some_shown, none_shown, taken, not_taken}
use Rattle.ordered_list.proofs.list.OrderedList.get.Goals as goal

pub returns-in_err-at : goal.returns-in_err-at
returns-in_err-at g c =
    let es = entries c.args.self.now in
    let missing = not_taken c.find.result (sym c.in_err-at.was ∙ c.ok.ensures.value) in
    c.from_residual.ensures
    ∙ none_shown es c.rank.result missing.0 (MatchResult-at_err _ _ missing.0 missing.1 c.find.ensures)
    ∙ ap (value_at es) c.rank.ensures

pub returns : goal.returns
returns g c =
    let es = entries c.args.self.now in
    let at = c.in_ok-at.at in
    let found = taken c.find.result at (sym c.in_ok-at.was ∙ c.ok.ensures.value) in
    ap (λ fs. Some (get_or fs at c.index-entries-at.result).value) c.entries.ensures
    ∙ some_shown es c.rank.result at c.index-entries-at.result c.args.self.now.ordered (MatchResult-at_ok _ _ at found c.find.ensures)
    ∙ ap (value_at es) c.rank.ensures
