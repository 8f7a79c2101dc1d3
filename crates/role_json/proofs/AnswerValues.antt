-- Values of answers: lists while they are built, and that each number in an answer is an integer.
use Rattle.std.proofs.Common.{◌≡◌, ◌≤◌, ◌<◌, ◌+◌, ℕ, pos, negsuc, List, [], ◌∷◌, ◌++◌, length, map, drop, get_or, suc, add-one, append_assoc, ap, refl}
use Rattle.std.specs.Prelude.{Some, None, false}
use Rattle.std.proofs.lemmas.List.{append-nil, drop_all, map-append}
use Rattle.std.proofs.Math.Seq.{drop-cons}
use Rattle.serde_json.specs.Data.{Data, Items, item, string}
use Rattle.serde_json.specs.View.{view, items_of, items_view}
use Rattle.serde_json.specs.Written.{compact_text, has_float, items_have_float}
use Rattle.serde_json.specs.declared.value.Value.{Value}
use Rattle.rbac_sets.specs.Sets.{Pair}
use Rattle.rbac_sets.specs.declared.refusal.Refusal.{Refusal}
use Rattle.rbac_sets.specs.declared.refusal.Refusal.TheVariants.{Version}
use Rattle.admin_mgr.specs.Assignment.{Tally}
use Rattle.admin_mgr.specs.PlanEffect.{tally_of_report}
use Rattle.review_mgr.specs.Answering.{AnswerContent, NamesContent, PermissionsContent, CountContent, AccessContent, answer_content}
use Rattle.role_json.specs.Answer.{done_text, import_text, pair_data, pairs_of, record_data, records_of, refusal_data, refusal_text, report_data, text_of, texts_of, value_text, value_data, with_value}
use Rattle.role_json.specs.private.AnswerData.{data_of}
use Rattle.role_json.specs.declared.answer.Verdict.{Verdict}
use Rattle.role_json.specs.declared.answer.Verdict.TheVariants as verdict

-- ---- lists while they are built: the values so far, and those of the remaining elements

module _ {K : Type 0} (shown : K → Data) where
  abbrev pub items_with : List Value → List K → Items
  items_with values rest = items_of (map view values ++ map shown rest)

  pub items_with-next : (values : List Value) (xs : List K) (i : ℕ) (x : K) (value : Value) → i < length xs → x ≡ get_or xs i x
      → view value ≡ shown x → items_with values (drop i xs) ≡ items_with (values ++ value ∷ []) (drop (i + 1) xs)
  items_with-next values xs i x value h e made =
      rw (add-one i, drop-cons xs i x h, ← e, map-append view values (value ∷ []), append_assoc (map view values) (map view (value ∷ [])) (map shown (drop (suc i) xs)), made) refl

  pub items_with-end : (values : List Value) (xs : List K) (i : ℕ) → length xs ≤ i → items_with values (drop i xs) ≡ items_view values
  items_with-end values xs i h = rw (drop_all i xs h, append-nil (map view values)) refl

pub items_with-texts_of : (texts : List (List ℕ)) → items_with string [] texts ≡ texts_of texts
unfolding texts_of
items_with-texts_of [] = refl
items_with-texts_of (text ∷ texts) = ap (item (string text)) (items_with-texts_of texts)

pub items_with-pairs_of : (pairs : List Pair) → items_with pair_data [] pairs ≡ pairs_of pairs
unfolding pairs_of
items_with-pairs_of [] = refl
items_with-pairs_of (pair ∷ pairs) = ap (item (pair_data pair)) (items_with-pairs_of pairs)

pub items_with-records_of : (records : List (ℕ × ℕ)) → items_with record_data [] records ≡ records_of records
unfolding records_of
items_with-records_of [] = refl
items_with-records_of (refused ∷ rest) = ap (item (record_data refused)) (items_with-records_of rest)

pub ruleset texts_of_steps = (items_with-texts_of, items_with-next, items_with-end)

pub ruleset pairs_of_steps = (items_with-pairs_of, items_with-next, items_with-end)

pub ruleset records_of_steps = (items_with-records_of, items_with-next, items_with-end)

-- ---- no float

items_have_float-texts_of : (texts : List (List ℕ)) → items_have_float (texts_of texts) ≡ false
unfolding texts_of
items_have_float-texts_of [] = refl
items_have_float-texts_of (text ∷ texts) = items_have_float-texts_of texts

items_have_float-pairs_of : (pairs : List Pair) → items_have_float (pairs_of pairs) ≡ false
unfolding pairs_of pair_data
items_have_float-pairs_of [] = refl
items_have_float-pairs_of (pair ∷ pairs) = items_have_float-pairs_of pairs

items_have_float-records_of : (records : List (ℕ × ℕ)) → items_have_float (records_of records) ≡ false
unfolding records_of record_data
items_have_float-records_of [] = refl
items_have_float-records_of (refused ∷ rest) = items_have_float-records_of rest

has_float-with_value : (value : Data) → has_float value ≡ false → has_float (with_value value) ≡ false
has_float-with_value value e = rw e refl

has_float-value_data : (t : AnswerContent) → has_float (value_data t) ≡ false
unfolding value_data
has_float-value_data (NamesContent names) = items_have_float-texts_of names
has_float-value_data (PermissionsContent permissions) = items_have_float-pairs_of permissions
has_float-value_data (CountContent (Some count)) = refl
has_float-value_data (CountContent None) = refl
has_float-value_data (AccessContent access) = refl

has_float-report_data : (tally : Tally) → has_float (report_data tally) ≡ false
unfolding report_data
has_float-report_data tally = rw (items_have_float-records_of tally.refused) refl

has_float-refusal_data : (refusal : Refusal) → has_float (refusal_data refusal) ≡ false
unfolding refusal_data
has_float-refusal_data (Version (pos n)) = refl
has_float-refusal_data (Version (negsuc n)) = refl
has_float-refusal_data _ = refl

-- each number in an answer is an integer
pub has_float-data_of : (v : Verdict) → has_float (data_of v) ≡ false
unfolding data_of
has_float-data_of verdict.Done = refl
has_float-data_of (verdict.Imported report) = has_float-with_value (report_data (tally_of_report report)) (has_float-report_data (tally_of_report report))
has_float-data_of (verdict.Answered answer) = has_float-with_value (value_data (answer_content answer)) (has_float-value_data (answer_content answer))
has_float-data_of (verdict.Refused refusal) = has_float-refusal_data refusal

-- the text of an answer is that of its value
pub compact_text-data_of : (v : Verdict) → compact_text (data_of v) ≡ text_of v
unfolding data_of text_of done_text import_text value_text refusal_text
compact_text-data_of verdict.Done = refl
compact_text-data_of (verdict.Imported report) = refl
compact_text-data_of (verdict.Answered answer) = refl
compact_text-data_of (verdict.Refused refusal) = refl

pub ruleset text_of_steps = (has_float-data_of, compact_text-data_of)
