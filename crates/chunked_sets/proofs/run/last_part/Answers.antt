use Rattle.std.proofs.Common.{◌≡◌, ◌++◌, true, ap, ◌∙◌, filter}
use Rattle.std.specs.Ordering.{is_eq}
use Rattle.chunked_sets.specs.Chunks.{entries_of}
use Rattle.chunked_sets.specs.private.Places.{first_passes}
use Rattle.chunked_sets.proofs.ChunkLists.{each_of}
use Rattle.chunked_sets.proofs.Parts.{sorted_last, passes_last}
use Rattle.chunked_sets.proofs.run.last_part.Goals as goal

pub run_in-requires : goal.run_in-requires
run_in-requires g c = rw c.deref.ensures.value (sorted_last g.K.Ord.cmp c.args.chunks.now c.in-Some.others.now c.in-Some.last.now c.in-Some.ensures.cases.0 c.requires.sorted)

pub returns-in-Some : goal.returns-in-Some
returns-in-Some g c =
    let f = g.P.Prefix.place c.args.prefix in
    let others = c.in-Some.others.now in
    let last = c.in-Some.last.now in
    ap (λ l. entries_of others ++ l) (c.run_in.ensures ∙ ap (filter (λ y. is_eq (f y))) c.deref.ensures.value)
    ∙ passes_last g.K.Ord.cmp f (g.met.P.Prefix.rises c.args.prefix) c.args.chunks.now others last c.in-Some.ensures.cases.0 c.requires.sorted
    (each_of (λ chunk. first_passes (λ y. is_eq (f y)) chunk.items ≡ true) c.args.chunks.now c.requires.equal)
