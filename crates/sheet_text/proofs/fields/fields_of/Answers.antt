-- The parts of a line are told by those that are there, up to the first that is not.
use Rattle.std.proofs.Common.{◌≡◌, [], ◌∷◌, lit<, Some, None, true, is_some, sym, arith, rules, slice_index_or}
use Rattle.text.specs.Cuts.{parts}
use Rattle.sheet_text.proofs.Parting.{all_parts, other_parts, there, ended, more_than, at_most}
use Rattle.sheet_text.proofs.fields.fields_of.Goals as goal
use Rattle.sheet_text.proofs.fields.fields_of.Goals.{in_default-via-in-Some+in-Some+in-Some+in-Some+in-Some+in-Some+in-Some+in-Some+in_default, in_default-via-in-Some+in-Some+in-Some+in-Some+in-Some+in-Some+in-Some+in_default, in_default-via-in-Some+in-Some+in-Some+in-Some+in-Some+in-Some+in_default, in_default-via-in-Some+in-Some+in-Some+in-Some+in-Some+in_default, in_default-via-in_default}

pub returns-in-Some : goal.returns-in-Some
returns-in-Some c =
    let found = c.first_parts.result in
    let are = c.first_parts.ensures in
    let h0 : slice_index_or found 0 None ≡ Some c.in-Some.a = search rules in
    let h1 : slice_index_or found 1 None ≡ None = search rules in
    rw h0 (sym (all_parts _ (c.in-Some.a.now ∷ []) (there _ found are 0 (lit< tt) _ h0, ended _ found are 1 (lit< tt) h1)))

pub returns-in-Some-2 : goal.returns-in-Some-2
returns-in-Some-2 c =
    let found = c.first_parts.result in
    let are = c.first_parts.ensures in
    let h0 : slice_index_or found 0 None ≡ Some c.in-Some-2.a = search rules in
    let h1 : slice_index_or found 1 None ≡ Some c.in-Some-2.b = search rules in
    let h2 : slice_index_or found 2 None ≡ None = search rules in
    rw (h0, h1) (sym (all_parts _ (c.in-Some-2.a.now ∷ c.in-Some-2.b.now ∷ []) (there _ found are 0 (lit< tt) _ h0, (there _ found are 1 (lit< tt) _ h1, ended _ found are 2 (lit< tt) h2))))

pub returns-in-Some-3 : goal.returns-in-Some-3
returns-in-Some-3 c =
    let found = c.first_parts.result in
    let are = c.first_parts.ensures in
    let h0 : slice_index_or found 0 None ≡ Some c.in-Some-3.a = search rules in
    let h1 : slice_index_or found 1 None ≡ Some c.in-Some-3.b = search rules in
    let h2 : slice_index_or found 2 None ≡ Some c.in-Some-3.c = search rules in
    let h3 : slice_index_or found 3 None ≡ None = search rules in
    rw (h0, h1, h2) (sym (all_parts _ (c.in-Some-3.a.now ∷ c.in-Some-3.b.now ∷ c.in-Some-3.c.now ∷ []) (there _ found are 0 (lit< tt) _ h0, (there _ found are 1 (lit< tt) _ h1, (there _ found are 2 (lit< tt) _ h2, ended _ found are 3 (lit< tt) h3)))))

pub returns-in-Some-4 : goal.returns-in-Some-4
returns-in-Some-4 c =
    let found = c.first_parts.result in
    let are = c.first_parts.ensures in
    let h0 : slice_index_or found 0 None ≡ Some c.in-Some-4.a = search rules in
    let h1 : slice_index_or found 1 None ≡ Some c.in-Some-4.b = search rules in
    let h2 : slice_index_or found 2 None ≡ Some c.in-Some-4.c = search rules in
    let h3 : slice_index_or found 3 None ≡ Some c.in-Some-4.d = search rules in
    let h4 : slice_index_or found 4 None ≡ None = search rules in
    rw (h0, h1, h2, h3) (sym (all_parts _ (c.in-Some-4.a.now ∷ c.in-Some-4.b.now ∷ c.in-Some-4.c.now ∷ c.in-Some-4.d.now ∷ []) (there _ found are 0 (lit< tt) _ h0, (there _ found are 1 (lit< tt) _ h1, (there _ found are 2 (lit< tt) _ h2, (there _ found are 3 (lit< tt) _ h3, ended _ found are 4 (lit< tt) h4))))))

pub returns-in-Some-5 : goal.returns-in-Some-5
returns-in-Some-5 c =
    let found = c.first_parts.result in
    let are = c.first_parts.ensures in
    let h0 : slice_index_or found 0 None ≡ Some c.in-Some-5.a = search rules in
    let h1 : slice_index_or found 1 None ≡ Some c.in-Some-5.b = search rules in
    let h2 : slice_index_or found 2 None ≡ Some c.in-Some-5.c = search rules in
    let h3 : slice_index_or found 3 None ≡ Some c.in-Some-5.d = search rules in
    let h4 : slice_index_or found 4 None ≡ Some c.in-Some-5.e = search rules in
    let h5 : slice_index_or found 5 None ≡ Some c.in-Some-5.f = search rules in
    let h6 : slice_index_or found 6 None ≡ Some c.in-Some-5.g = search rules in
    let h7 : slice_index_or found 7 None ≡ Some c.in-Some-5.h = search rules in
    let h8 : slice_index_or found 8 None ≡ None = search rules in
    rw (h0, h1, h2, h3, h4, h5, h6, h7) (sym (all_parts _ (c.in-Some-5.a.now ∷ c.in-Some-5.b.now ∷ c.in-Some-5.c.now ∷ c.in-Some-5.d.now ∷ c.in-Some-5.e.now ∷ c.in-Some-5.f.now ∷ c.in-Some-5.g.now ∷ c.in-Some-5.h.now ∷ []) (there _ found are 0 (lit< tt) _ h0, (there _ found are 1 (lit< tt) _ h1, (there _ found are 2 (lit< tt) _ h2, (there _ found are 3 (lit< tt) _ h3, (there _ found are 4 (lit< tt) _ h4, (there _ found are 5 (lit< tt) _ h5, (there _ found are 6 (lit< tt) _ h6, (there _ found are 7 (lit< tt) _ h7, ended _ found are 8 (lit< tt) h8))))))))))

pub returns-in_default : goal.returns-in_default
returns-in_default c =
    let found = c.first_parts.result in
    let are = c.first_parts.ensures in
    let line = parts 32 c.args.line.now in
    elim c.in_default.branch [
      | in_default-via-in-Some+in-Some+in-Some+in-Some+in-Some+in-Some+in-Some+in-Some+in_default w ↦ (let h : is_some (slice_index_or found 8 None) ≡ true = search rules in let m = more_than line found are 8 (lit< tt) h in sym (other_parts line (omega arith) (omega arith)))
      | in_default-via-in-Some+in-Some+in-Some+in-Some+in-Some+in-Some+in-Some+in_default w ↦ (let h : is_some (slice_index_or found 6 None) ≡ true = search rules in let k : slice_index_or found 7 None ≡ None = search rules in let m = more_than line found are 6 (lit< tt) h in let l = at_most line found are 7 (lit< tt) k in sym (other_parts line (omega arith) (omega arith)))
      | in_default-via-in-Some+in-Some+in-Some+in-Some+in-Some+in-Some+in_default w ↦ (let h : is_some (slice_index_or found 5 None) ≡ true = search rules in let k : slice_index_or found 6 None ≡ None = search rules in let m = more_than line found are 5 (lit< tt) h in let l = at_most line found are 6 (lit< tt) k in sym (other_parts line (omega arith) (omega arith)))
      | in_default-via-in-Some+in-Some+in-Some+in-Some+in-Some+in_default w ↦ (let h : is_some (slice_index_or found 4 None) ≡ true = search rules in let k : slice_index_or found 5 None ≡ None = search rules in let m = more_than line found are 4 (lit< tt) h in let l = at_most line found are 5 (lit< tt) k in sym (other_parts line (omega arith) (omega arith)))
      | in_default-via-in_default w ↦ (let h : slice_index_or found 0 None ≡ None = search rules in sym (all_parts line [] (ended line found are 0 (lit< tt) h)))
    ]
