use Rattle.review_mgr.proofs.Gathering.{put-sorted, put-all, put-there}
use Rattle.review_mgr.proofs.gather.put.Goals as goal
use Rattle.review_mgr.proofs.gather.put.Goals.{in-Err+in_ok-to_entry+in_ok-insert, in_default}

pub returns-clause-sorted : goal.returns-clause-sorted
returns-clause-sorted g c = elim c.match-place.branch [
  | in-Err+in_ok-to_entry+in_ok-insert w ↦
      rw w.entries-is (put-sorted g.met.K.Ord.total g.met.K.Entry.exact _ _ (g.P.Probe.entry c.args.part) _ w.in-Err.at c.requires (rw c.deref.ensures.value at w.in-Err.ensures.gap) w.in_ok-to_entry.ensures.ok w.in_ok-insert.ensures.items)
  | in_default w ↦ rw w.entries-is c.requires
]

pub returns-clause-put : goal.returns-clause-put
returns-clause-put g c = elim c.match-place.branch [
  | in-Err+in_ok-to_entry+in_ok-insert w ↦
      rw w.entries-is (put-all g.met.K.Ord.total g.met.K.Entry.exact c.args.entries.now.items _ (g.P.Probe.entry c.args.part) _ w.in-Err.at w.in_ok-to_entry.ensures.ok w.in_ok-insert.ensures.items)
  | in_default w ↦ rw w.entries-is (put-there g.met.K.Ord.total g.met.K.Entry.exact _ (g.P.Probe.entry c.args.part) _ (rw c.deref.ensures.value at w.in_default.ensures.found))
]
