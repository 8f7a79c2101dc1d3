use Rattle.std.proofs.Common.{string_bytes, ap}
use Rattle.std.specs.Str.{bytes_eq}
use Rattle.std.specs.Map.{lookup}
use Rattle.access_index.specs.Index.{is_below}
use Rattle.access_index.proofs.IndexLaws.{keeps_empty, keeps_none}
use Rattle.access_index.proofs.index.AccessIndex.empty.Goals as goal

pub returns-clause-rows : goal.returns-clause-rows
returns-clause-rows c =
    keeps_none _ c.new.ensures.empty c.new-2.ensures c.new-5.ensures.empty c.new-6.ensures.empty
    (λ p n. c.new-7.ensures.empty p.0 p.1 n) (λ i j. ap (λ rows. is_below rows i j) c.new-3.ensures.items) (λ i j. ap (λ rows. is_below rows i j) c.new-4.ensures.items) c.new-8.ensures
    (λ set. ap (lookup (λ k. bytes_eq set (string_bytes k))) c.new-9.ensures.empty) (λ user. ap (lookup (λ k. bytes_eq user (string_bytes k))) c.with_hasher.ensures.empty)

pub returns-clause-state : goal.returns-clause-state
returns-clause-state c = keeps_empty _ (returns-clause-rows c)
