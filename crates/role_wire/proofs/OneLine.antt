-- No answer has a line feed in it.
use Rattle.std.proofs.Common.{◌≡◌, ◌≤◌, ◌+◌, ◌/◌, ◌%◌, ℕ, zero, suc, Bool, true, false, cond, nat_lt, ◌==◌, ℤ, pos, negsuc, List, [], ◌∷◌, append_assoc, Option, Some, None, Result, Ok, Err, refl, sym, ap, subst, ◌∙◌, arith}
use Rattle.std.specs.Prelude.{decimal}
use Rattle.std.specs.Fmt.{digits, digits_onto, digit_glyph, signed_decimal}
use Rattle.std.specs.Char.{digit_char}
use Rattle.std.specs.List.{AllByRecursion}
use Rattle.std.proofs.lemmas.Bool.{eqb-true, ne_eqb}
use Rattle.json.specs.Print.{escape_byte, escape, quoted, token_text}
use Rattle.json.specs.Token.{Token}
use Rattle.serde_json.specs.Data.{Num, unsigned, negative, float, Data, null, boolean, number, string, array, object, Items, no_items, item, Members, no_members, member}
use Rattle.serde_json.specs.Written.{number_text, comma_if, compact_text, items_text, members_text}
use Rattle.rbac_sets.specs.CommandContent.{CommandContent, Single, Import}
use Rattle.rbac_sets.specs.declared.refusal.Refusal.{Refusal}
use Rattle.admin_mgr.specs.CommandContent.{content_verdict, content_tally}
use Rattle.admin_mgr.specs.Assignment.{Tally}
use Rattle.admin_mgr.specs.RbacState.{RbacState}
use Rattle.review_mgr.specs.Answering.{value}
use Rattle.review_mgr.specs.Questions.{refused}
use Rattle.role_json.specs.Answer.{done_text, done_data, import_text, value_text, refusal_text, refusal_data, report_data, value_data, with_value}
use Rattle.role_json.specs.Request.{request}
use Rattle.role_json.specs.RequestContent.{RequestContent, Change, Ask}
use Rattle.role_wire.specs.AnswerTexts.{AnswersAreLines}
use Rattle.role_wire.specs.Lines.{line_feed, split_lines, with_line_feeds, fitting, asking}
use Rattle.role_wire.specs.Outcome.{accepted_text, unless, outcome_text, outcome, outcome_of, answer_to, after_line, answers_to, output_for, lines}
use Rattle.role_wire.specs.private.ReadProgress.{HasNoLineFeed}
use Rattle.role_wire.proofs.Splitting.{HasNoLineFeed-append, split_lines-ended}

-- a byte from 11 on is no line feed
high : (byte : ℕ) → 11 ≤ byte → (byte == line_feed) ≡ false
high byte least = ne_eqb byte 10 (λ same. omega (arith, least, same))

-- ---- numbers

glyph_high : (d : ℕ) → 11 ≤ digit_glyph false d
glyph_high d = elim (nat_lt d 10) as (λ b. 11 ≤ cond b (48 + d) (87 + d)) [ true ↦ omega arith | false ↦ omega arith ]

plain_digits : (k n : ℕ) (acc : List ℕ) → HasNoLineFeed acc → HasNoLineFeed (digits_onto k 10 false n acc)
plain_digits zero n acc plain = plain
plain_digits (suc k) n acc plain = go (n / 10 == 0) (λ more. plain_digits k (n / 10) (digit_glyph false (n % 10) ∷ acc) more)
  where
    more : HasNoLineFeed (digit_glyph false (n % 10) ∷ acc)
    more = (high (digit_glyph false (n % 10)) (glyph_high (n % 10)), plain)

    go : (last : Bool) → (HasNoLineFeed (digit_glyph false (n % 10) ∷ acc) → HasNoLineFeed (digits_onto k 10 false (n / 10) (digit_glyph false (n % 10) ∷ acc)))
        → HasNoLineFeed (cond last (digit_glyph false (n % 10) ∷ acc) (digits_onto k 10 false (n / 10) (digit_glyph false (n % 10) ∷ acc)))
    go true later = more
    go false later = later more

plain_decimal : (n : ℕ) → HasNoLineFeed (decimal n)
unfolding digits
plain_decimal n = plain_digits 64 n [] tt

plain_signed : (z : ℤ) → HasNoLineFeed (signed_decimal z)
plain_signed (pos n) = plain_decimal n
plain_signed (negsuc n) = (refl, plain_decimal (suc n))

plain_number : (n : Num) → HasNoLineFeed (number_text n)
plain_number (unsigned n) = plain_decimal n
plain_number (negative z) = plain_signed z
plain_number (float x) = tt

-- ---- strings

char_high : (d : ℕ) → 11 ≤ digit_char d
char_high d = elim (nat_lt d 10) as (λ b. 11 ≤ cond b (48 + d) (87 + d)) [ true ↦ omega arith | false ↦ omega arith ]

module _ (x : ℕ) where
  -- one of the bytes with a short escape
  short : (y : ℕ) → (x == y) ≡ true → HasNoLineFeed (escape_byte y) → HasNoLineFeed (escape_byte x)
  short y is plain = subst (λ z. HasNoLineFeed (escape_byte z)) (sym (eqb-true x y is)) plain

  -- any other byte
  long : (low : Bool) → (x == 10) ≡ false → HasNoLineFeed (cond low (92 ∷ 117 ∷ 48 ∷ 48 ∷ digit_char (x / 16) ∷ digit_char (x % 16) ∷ []) (x ∷ []))
  long true other = (refl, (refl, (refl, (refl, (high (digit_char (x / 16)) (char_high (x / 16)), (high (digit_char (x % 16)) (char_high (x % 16)), tt))))))
  long false other = (other, tt)

  plain_byte : HasNoLineFeed (escape_byte x)
  unfolding escape_byte
  plain_byte = go (x == 34) refl (x == 92) refl (x == 8) refl (x == 12) refl (x == 10) refl (x == 13) refl (x == 9) refl
    where
      go : (quote : Bool) → (x == 34) ≡ quote → (slash : Bool) → (x == 92) ≡ slash → (back : Bool) → (x == 8) ≡ back → (form : Bool) → (x == 12) ≡ form
          → (feed : Bool) → (x == 10) ≡ feed → (return : Bool) → (x == 13) ≡ return → (tab : Bool) → (x == 9) ≡ tab → HasNoLineFeed (escape_byte x)
      go true is _ _ _ _ _ _ _ _ _ _ _ _ = short 34 is (refl, (refl, tt))
      go false _ true is _ _ _ _ _ _ _ _ _ _ = short 92 is (refl, (refl, tt))
      go false _ false _ true is _ _ _ _ _ _ _ _ = short 8 is (refl, (refl, tt))
      go false _ false _ false _ true is _ _ _ _ _ _ = short 12 is (refl, (refl, tt))
      go false _ false _ false _ false _ true is _ _ _ _ = short 10 is (refl, (refl, tt))
      go false _ false _ false _ false _ false _ true is _ _ = short 13 is (refl, (refl, tt))
      go false _ false _ false _ false _ false _ false _ true is = short 9 is (refl, (refl, tt))
      go false a false b false c false d false e false f false g = rw (a, b, c, d, e, f, g) (long (nat_lt x 32) e)

plain_escape : (s : List ℕ) → HasNoLineFeed (escape s)
plain_escape [] = tt
plain_escape (x ∷ s) = HasNoLineFeed-append (escape_byte x) (escape s) (plain_byte x) (plain_escape s)

plain_quoted : (s : List ℕ) → HasNoLineFeed (quoted s)
plain_quoted s = (refl, HasNoLineFeed-append (escape s) (34 ∷ []) (plain_escape s) (refl, tt))

-- ---- any value

plain_comma : (later : Bool) → HasNoLineFeed (comma_if later)
plain_comma true = (refl, tt)
plain_comma false = tt

plain_boolean : (b : Bool) → HasNoLineFeed (token_text (Token.boolean b))
plain_boolean true = (refl, (refl, (refl, (refl, tt))))
plain_boolean false = (refl, (refl, (refl, (refl, (refl, tt)))))

mutual
  plain_data : (d : Data) → HasNoLineFeed (compact_text d)
  plain_data null = (refl, (refl, (refl, (refl, tt))))
  plain_data (boolean b) = plain_boolean b
  plain_data (number n) = plain_number n
  plain_data (string s) = plain_quoted s
  plain_data (array ds) = (refl, plain_items false ds)
  plain_data (object ms) = (refl, plain_members false ms)

  plain_items : (later : Bool) (ds : Items) → HasNoLineFeed (items_text later ds)
  plain_items later no_items = (refl, tt)
  plain_items later (item d ds) =
      HasNoLineFeed-append (comma_if later) _ (plain_comma later) (HasNoLineFeed-append (compact_text d) (items_text true ds) (plain_data d) (plain_items true ds))

  plain_members : (later : Bool) (ms : Members) → HasNoLineFeed (members_text later ms)
  plain_members later no_members = (refl, tt)
  plain_members later (member k d ms) =
      HasNoLineFeed-append (comma_if later) _ (plain_comma later)
      (HasNoLineFeed-append (quoted k) _ (plain_quoted k) (refl, HasNoLineFeed-append (compact_text d) (members_text true ms) (plain_data d) (plain_members true ms)))

-- ---- answers

plain_refusal : (refusal : Refusal) → HasNoLineFeed (refusal_text refusal)
unfolding refusal_text
plain_refusal refusal = plain_data (refusal_data refusal)

plain_accepted : (asked : CommandContent) (tally : Tally) → HasNoLineFeed (accepted_text asked tally)
unfolding done_text import_text
plain_accepted (Single command) tally = plain_data done_data
plain_accepted (Import pairs) tally = plain_data (with_value (report_data tally))

plain_unless : (told : Option Refusal) (text : List ℕ) → HasNoLineFeed text → HasNoLineFeed (outcome_text (unless told text))
plain_unless None text plain = plain
plain_unless (Some refusal) text plain = plain_refusal refusal

plain_outcome : (S : RbacState) (read : Result RequestContent Refusal) → HasNoLineFeed (outcome_text (outcome S read))
unfolding outcome_of value_text
plain_outcome S (Ok (Change asked)) = plain_unless (content_verdict S asked) (accepted_text asked (content_tally S asked)) (plain_accepted asked (content_tally S asked))
plain_outcome S (Ok (Ask query)) = plain_unless (refused S query) (value_text (value S query)) (plain_data (with_value (value_data (value S query))))
plain_outcome S (Err refusal) = plain_refusal refusal

plain_answers : (S : RbacState) (asked : List (List ℕ)) → AllByRecursion HasNoLineFeed (answers_to S asked)
unfolding answers_to answer_to
plain_answers S [] = tt
plain_answers S (line ∷ rest) = (plain_outcome S (request line), plain_answers (after_line S line) rest)

-- texts without LF, each followed by LF, are split into the texts again
split_texts : (texts : List (List ℕ)) → AllByRecursion HasNoLineFeed texts → split_lines (with_line_feeds texts) ≡ texts
unfolding with_line_feeds
split_texts [] plain = refl
split_texts (text ∷ texts) plain =
    ap split_lines (append_assoc text (line_feed ∷ []) (with_line_feeds texts)) ∙ split_lines-ended text (with_line_feeds texts) plain.0 ∙ ap (λ rest. text ∷ rest) (split_texts texts plain.1)

pub answers_are_lines : AnswersAreLines
unfolding output_for lines
answers_are_lines S bytes = split_texts (answers_to S (asking (fitting (split_lines bytes)))) (plain_answers S (asking (fitting (split_lines bytes))))
