use Rattle.std.proofs.Common.{◌≡◌, true, ap, ◌∙◌, filter}
use Rattle.std.specs.Ordering.{is_lt, is_eq}
use Rattle.chunked_sets.specs.private.Places.{first_passes}
use Rattle.chunked_sets.proofs.Parts.{last_holds, sorted_last, passes_first}
use Rattle.chunked_sets.proofs.run.first_part.Goals as goal

pub run_in-requires : goal.run_in-requires
run_in-requires g c = rw c.deref.ensures.value (sorted_last g.K.Ord.cmp c.args.chunks.now c.in-Some.field-0-1.now c.in-Some.last.now c.in-Some.ensures.cases.0 c.requires.sorted)

pub returns-in-Some : goal.returns-in-Some
returns-in-Some g c =
    let f = g.P.Prefix.place c.args.prefix in
    let others = c.in-Some.field-0-1.now in
    let last = c.in-Some.last.now in
    let is = c.in-Some.ensures.cases.0 in
    c.run_in.ensures ∙ ap (filter (λ y. is_eq (f y))) c.deref.ensures.value
    ∙ passes_first g.K.Ord.cmp f (g.met.P.Prefix.rises c.args.prefix) c.args.chunks.now others last is c.requires.sorted
    (last_holds (λ chunk. first_passes (λ y. is_lt (f y)) chunk.items ≡ true) c.args.chunks.now others last is c.requires.below)
