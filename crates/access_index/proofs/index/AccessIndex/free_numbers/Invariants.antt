use Rattle.std.proofs.Common.{◌≡◌, true, take, None}
use Rattle.rbac_sets.specs.Sets.{Bytes}
use Rattle.rbac_sets.specs.declared.row.Row.TheVariants.{NameRow}
use Rattle.rbac_sets.specs.declared.row.TheConstants.Row.{ROLE}
use Rattle.admin_mgr.specs.Changes.{is_taken}
use Rattle.access_index.specs.Following.{AreNumbers}
use Rattle.access_index.specs.Index.{Keeps, Rows, is_used, number_of, seeds_of}
use Rattle.access_index.specs.private.Changing.{IsNowhere}
use Rattle.access_index.proofs.index.AccessIndex.free_numbers.Given as goal

abbrev pub invariant-loop-change : goal.invariant-loop-change
invariant-loop-change l = AreNumbers (number_of l.self) (is_used l.self)
    × ((rows : Rows) → Keeps l.initial.self rows → ((role : Bytes) → is_taken l.changes (NameRow ROLE role) ≡ true → IsNowhere rows role) → Keeps l.self rows)
    × ((role : Bytes) → is_taken (take l.change-index l.changes) (NameRow ROLE role) ≡ true → number_of l.self role ≡ None)
    × (seeds_of l.self ≡ seeds_of l.initial.self)
