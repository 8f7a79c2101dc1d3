use Rattle.role_tables.proofs.OfficeHistory.Openings.{created_are_good, openings_are_good, openings_follow, last_is_sound}
use Rattle.role_tables.proofs.OfficeHistory.Taken.{deassigned_stays, revoked_stays}
use Rattle.role_tables.proofs.laws.lives.Goals as goal

pub returns-clause-created : goal.returns-clause-created
returns-clause-created c = created_are_good (record { accepted = c.accepted_good.ensures; empty = c.empty_states.ensures.good; migrated = c.migrated_good.ensures; version = c.effects.ensures.version })

pub returns-clause-good : goal.returns-clause-good
returns-clause-good c = openings_are_good (record { accepted = c.accepted_good.ensures; empty = c.empty_states.ensures.good; migrated = c.migrated_good.ensures; version = c.effects.ensures.version })

pub returns-clause-follow : goal.returns-clause-follow
returns-clause-follow c = openings_follow (record { accepted = c.accepted_good.ensures; empty = c.empty_states.ensures.good; migrated = c.migrated_good.ensures; version = c.effects.ensures.version })

pub returns-clause-last : goal.returns-clause-last
returns-clause-last c = last_is_sound (record { accepted = c.accepted_good.ensures; empty = c.empty_states.ensures.good; migrated = c.migrated_good.ensures; version = c.effects.ensures.version })

pub returns-clause-deassigned : goal.returns-clause-deassigned
returns-clause-deassigned c =
    deassigned_stays (record { accepted = c.accepted_good.ensures; empty = c.empty_states.ensures.good; migrated = c.migrated_good.ensures; version = c.effects.ensures.version })
    (record { assigned = c.effects.ensures.assignments; granted = c.effects.ensures.grants })

pub returns-clause-revoked : goal.returns-clause-revoked
returns-clause-revoked c =
    revoked_stays (record { accepted = c.accepted_good.ensures; empty = c.empty_states.ensures.good; migrated = c.migrated_good.ensures; version = c.effects.ensures.version })
    (record { assigned = c.effects.ensures.assignments; granted = c.effects.ensures.grants })
