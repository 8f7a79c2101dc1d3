-- Laws of texts of assignments.
use Rattle.std.specs.Prelude.{◌≡◌, Bool, true, false, nat_le, Err}
use Rattle.rbac_sets.specs.Sets.{Bytes}
use Rattle.rbac_sets.specs.declared.kind.Kind.TheVariants.{Record, Byte}
use Rattle.rbac_sets.specs.declared.refusal.Refusal.{Refusal}
use Rattle.rbac_sets.specs.declared.refusal.Refusal.TheVariants.{BadName, BadCsv, TooMany}
use Rattle.role_csv.specs.Assignments.{assignments, most_records}

-- whether a text of assignments may be refused by this: it has too many bytes or records, the header or a record within the
-- limit cannot be read, or a text in it is not a valid name
abbrev pub refuses_texts : Refusal → Bool
refuses_texts BadName = true
refuses_texts (BadCsv number) = nat_le number most_records
refuses_texts (TooMany Record) = true
refuses_texts (TooMany Byte) = true
refuses_texts _ = false

-- a text is refused by nothing else
abbrev pub RefusalsOfTexts : Type 0
RefusalsOfTexts = (text : Bytes) (refusal : Refusal) → assignments text ≡ Err refusal → refuses_texts refusal ≡ true
