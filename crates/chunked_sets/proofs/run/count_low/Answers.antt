use Rattle.std.proofs.Common.{◌≡◌, ◌++◌, true, length, filter, ap, sym, ◌∙◌, arith, length-append}
use Rattle.std.specs.Prelude.{count_by}
use Rattle.std.specs.Ordering.{is_lt}
use Rattle.std.proofs.lemmas.List.{append-nil}
use Rattle.std.proofs.lemmas.List.Sums.{length-filter}
use Rattle.chunked_sets.specs.Chunks.{entries_of}
use Rattle.chunked_sets.specs.private.Places.{first_passes}
use Rattle.chunked_sets.proofs.Parts.{last_holds, lows_last, sorted_last}
use Rattle.chunked_sets.proofs.run.count_low.Goals as goal

pub count_in-requires : goal.count_in-requires
count_in-requires g c = rw c.deref.ensures.value (sorted_last g.K.Ord.cmp c.args.chunks.now c.in-Some.others.now c.in-Some.last.now c.in-Some.ensures.cases.0 c.requires.sorted)

pub returns-in-Some : goal.returns-in-Some
returns-in-Some g c =
    let f = g.P.Prefix.place c.args.prefix in
    let others = c.in-Some.others.now in
    let last = c.in-Some.last.now in
    let is = c.in-Some.ensures.cases.0 in
    let before : c.len.result ≡ length (entries_of others) = c.len.ensures ∙ ap length (c.new-some.ensures ∙ append-nil (entries_of others)) in
    let among : c.count_in.result ≡ length (filter (λ y. is_lt (f y)) last.items) =
    c.count_in.ensures ∙ ap (count_by (λ y. is_lt (f y))) c.deref.ensures.value ∙ sym (length-filter (λ y. is_lt (f y)) last.items) in
    let all : length (entries_of others ++ filter (λ y. is_lt (f y)) last.items) ≡ count_by (λ y. is_lt (f y)) (entries_of c.args.chunks.now) =
    ap length (lows_last g.K.Ord.cmp f (g.met.P.Prefix.rises c.args.prefix) c.args.chunks.now others last is c.requires.sorted
    (last_holds (λ chunk. first_passes (λ y. is_lt (f y)) chunk.items ≡ true) c.args.chunks.now others last is c.requires.below)) ∙ length-filter (λ y. is_lt (f y)) (entries_of c.args.chunks.now) in
    omega (arith, before, among, all, length-append (entries_of others) (filter (λ y. is_lt (f y)) last.items))
