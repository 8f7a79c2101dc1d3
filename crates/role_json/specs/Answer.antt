-- The texts that answer requests: JSON without spaces between tokens, and with the keys in byte order.
use Rattle.std.specs.Prelude.{ℕ, List, [], ◌∷◌, codes, true, Option, Some, None}
use Rattle.serde_json.specs.Data.{Data, null, boolean, number, unsigned, string, array, object, Items, no_items, item, Members, no_members, member, put}
use Rattle.serde_json.specs.Find.{of_integer}
use Rattle.serde_json.specs.Written.{compact_text}
use Rattle.rbac_sets.specs.Sets.{Bytes, Pair}
use Rattle.rbac_sets.specs.Kind.{word_of}
use Rattle.rbac_sets.specs.Refusal.{code_of, name_of}
use Rattle.rbac_sets.specs.declared.refusal.Refusal.{Refusal}
use Rattle.rbac_sets.specs.declared.refusal.Refusal.TheVariants.{StaticSeparation, DynamicSeparation, TooMany, BadCsv, Version, Damaged}
use Rattle.admin_mgr.specs.Assignment.{Tally}
use Rattle.admin_mgr.specs.PlanEffect.{tally_of_report}
use Rattle.review_mgr.specs.Answering.{AnswerContent, NamesContent, PermissionsContent, CountContent, AccessContent, answer_content}
use Rattle.role_json.specs.declared.answer.Verdict.{Verdict}
use Rattle.role_json.specs.declared.answer.Verdict.TheVariants as verdict

-- texts as the items of a list
unfoldable pub texts_of : List Bytes → Items
texts_of [] = no_items
texts_of (text ∷ texts) = item (string text) (texts_of texts)

-- a pair of names as a list of two
unfoldable pub pair_data : Pair → Data
pair_data pair = array (item (string pair.0) (item (string pair.1) no_items))

-- pairs of names as the items of a list
unfoldable pub pairs_of : List Pair → Items
pairs_of [] = no_items
pairs_of (pair ∷ pairs) = item (pair_data pair) (pairs_of pairs)

-- a refused record: its number and the code of the refusal
unfoldable pub record_data : ℕ × ℕ → Data
record_data refused = object (member (codes "code") (number (unsigned refused.1)) (member (codes "record") (number (unsigned refused.0)) no_members))

-- refused records as the items of a list
unfoldable pub records_of : List (ℕ × ℕ) → Items
records_of [] = no_items
records_of (refused ∷ rest) = item (record_data refused) (records_of rest)

-- the report of an import
unfoldable pub report_data : Tally → Data
report_data tally = object (
    member (codes "already") (number (unsigned tally.already)) (
    member (codes "assigned") (number (unsigned tally.assigned)) (
    member (codes "refused") (array (records_of tally.refused)) no_members)))

-- a cardinality as a number. No answer is about a set that doesn't exist
abbrev pub count_data : Option ℕ → Data
count_data (Some count) = number (unsigned count)
count_data None = null

-- the value of the answer to a question
unfoldable pub value_data : AnswerContent → Data
value_data (NamesContent names) = array (texts_of names)
value_data (PermissionsContent permissions) = array (pairs_of permissions)
value_data (CountContent count) = count_data count
value_data (AccessContent access) = boolean access

-- the answer to a command that was done
abbrev pub done_data : Data
done_data = object (member (codes "ok") (boolean true) no_members)

-- an answer with this value
abbrev pub with_value : Data → Data
with_value value = object (member (codes "ok") (boolean true) (member (codes "value") value no_members))

-- the value that a refusal carries, with its key, if it carries one
abbrev pub part_of : Refusal → Option (List ℕ × Data)
part_of (StaticSeparation set) = Some (codes "set", string set)
part_of (DynamicSeparation set) = Some (codes "set", string set)
part_of (TooMany kind) = Some (codes "kind", string (word_of kind))
part_of (BadCsv place) = Some (codes "record", number (unsigned place))
part_of (Version version) = Some (codes "version", number (of_integer version))
part_of (Damaged check) = Some (codes "check", number (unsigned check))
part_of _ = None

-- the members with one more, inserted in byte order
abbrev pub with_part : Option (List ℕ × Data) → Members → Members
with_part None members = members
with_part (Some part) members = put part.0 part.1 members

-- the answer to a request that was refused
unfoldable pub refusal_data : Refusal → Data
refusal_data refusal =
    object (with_part (part_of refusal) (member (codes "code") (number (unsigned (code_of refusal))) (member (codes "error") (string (name_of refusal)) no_members)))

-- `{"ok":true}`
unfoldable pub done_text : List ℕ
done_text = compact_text done_data

-- such as `{"ok":true,"value":{"already":0,"assigned":2,"refused":[{"code":2,"record":3}]}}`
unfoldable pub import_text : Tally → List ℕ
import_text tally = compact_text (with_value (report_data tally))

-- such as `{"ok":true,"value":["ann","bob"]}`, `{"ok":true,"value":[["safe","open"]]}`, `{"ok":true,"value":2}` or
-- `{"ok":true,"value":true}`
unfoldable pub value_text : AnswerContent → List ℕ
value_text content = compact_text (with_value (value_data content))

-- such as `{"code":2,"error":"NoUser"}`, with the value that the refusal carries, if it carries one
unfoldable pub refusal_text : Refusal → List ℕ
refusal_text refusal = compact_text (refusal_data refusal)

-- the text that answers a request
unfoldable pub text_of : Verdict → List ℕ
text_of verdict.Done = done_text
text_of (verdict.Imported report) = import_text (tally_of_report report)
text_of (verdict.Answered answer) = value_text (answer_content answer)
text_of (verdict.Refused refusal) = refusal_text refusal
