-- The text of a name: only quotation marks and backslashes are escaped.
use Rattle.std.proofs.Common.{◌≡◌, ◌≤◌, ◌+◌, ℕ, Bool, true, false, ◌==◌, List, [], ◌∷◌, ◌++◌, refl, ap, ◌∙◌, arith}
use Rattle.std.specs.Prelude.{IsTrue, ◌||◌, flat_map, nat_le}
use Rattle.std.specs.List.{list_all}
use Rattle.std.proofs.lemmas.Bool.{and_parts, leb-true, le-ltb, lt-ltb, ne_eqb}
use Rattle.json.specs.Print.{escape, escape_byte}
use Rattle.rbac_sets.specs.Name.{is_printable}
use Rattle.role_wire.specs.AnswerTexts.{NamesAreQuoted, quoted_byte}

-- a byte that is no control character
byte_is_quoted : (x : ℕ) → 32 ≤ x → escape_byte x ≡ quoted_byte x
unfolding escape_byte
byte_is_quoted x least = go ((x == 34) || (x == 92)) refl
  where
    other : (y : ℕ) → y + 1 ≤ 32 → (x == y) ≡ false
    other y below = ne_eqb x y (λ same. omega (arith, least, same, below))

    go : (marked : Bool) → ((x == 34) || (x == 92)) ≡ marked → escape_byte x ≡ quoted_byte x
    go true is = rw (is, lt-ltb 0 x (omega (arith, least))) refl
    go false is = rw (is, other 8 (omega arith), other 12 (omega arith), other 10 (omega arith), other 13 (omega arith), other 9 (omega arith), le-ltb x 32 least) refl

text_is_quoted : (text : List ℕ) → IsTrue (list_all is_printable text) → escape text ≡ flat_map quoted_byte text
text_is_quoted [] printable = refl
text_is_quoted (x ∷ text) printable =
    let parts = and_parts (is_printable x) (list_all is_printable text) printable in
    let least = leb-true 32 x (and_parts (nat_le 32 x) _ parts.0).0 in
    ap (λ first. first ++ escape text) (byte_is_quoted x least) ∙ ap (λ rest. quoted_byte x ++ rest) (text_is_quoted text parts.1)

pub names_are_quoted : NamesAreQuoted
names_are_quoted name is_name = ap (λ bytes. 34 ∷ (bytes ++ 34 ∷ [])) (text_is_quoted name (and_parts (list_all is_printable name) _ (and_parts _ _ is_name).1).0)
