-- What the laws say of the texts of answers.
use Rattle.std.specs.Prelude.{◌≡◌, ℕ, ◌==◌, ◌||◌, List, [], ◌∷◌, ◌++◌, codes, flat_map, IsTrue, if◌then◌else◌}
use Rattle.serde_json.specs.Data.{string}
use Rattle.serde_json.specs.Written.{compact_text}
use Rattle.rbac_sets.specs.Name.{is_name}
use Rattle.admin_mgr.specs.Assignment.{Tally}
use Rattle.admin_mgr.specs.RbacState.{RbacState}
use Rattle.role_json.specs.Answer.{import_text}
use Rattle.role_wire.specs.Lines.{split_lines}
use Rattle.role_wire.specs.Outcome.{output_for, lines}

-- what is written, split at each LF, gives the answers again
abbrev pub AnswersAreLines : Type 0
AnswersAreLines = (S : RbacState) (bytes : List ℕ) → split_lines (output_for S bytes) ≡ lines S bytes

-- an import of three records, of which one was assigned already and the third was refused by 2 NoUser
abbrev pub one_refused : Tally
one_refused = record { assigned = 1; already = 1; refused = (3, 2) ∷ [] }

abbrev pub ImportText : Type 0
ImportText = import_text one_refused ≡ codes "{\"ok\":true,\"value\":{\"already\":1,\"assigned\":1,\"refused\":[{\"code\":2,\"record\":3}]}}"

-- a quotation mark and a backslash are escaped by a backslash before them, and any other byte is written as it is
abbrev pub quoted_byte : ℕ → List ℕ
quoted_byte byte = if byte == 34 || byte == 92 then 92 ∷ byte ∷ [] else byte ∷ []

-- the text of a name is its bytes, each written like this, in quotation marks
abbrev pub NamesAreQuoted : Type 0
NamesAreQuoted = (name : List ℕ) → IsTrue (is_name name) → compact_text (string name) ≡ 34 ∷ (flat_map quoted_byte name ++ 34 ∷ [])
