-- Whole requests: a head and a call.
use Rattle.std.proofs.Common.{◌≡◌, ◌≤◌, ◌+◌, ◌∙◌, ◌⊎◌, inl, inr, ℕ, List, [], ◌++◌, length, length-append, append_assoc, take, Option, Some, None, Result, Ok, Err, ap, sym, refl, arith, subst}
use Rattle.std.proofs.lemmas.List.{append-nil}
use Rattle.std.specs.Cow.{cow_str_bytes}
use Rattle.std.specs.Io.KnownBytes.{Appends, Consumes}
use Rattle.httparse.specs.Grammar.{RequestHead, HasNoRequest, print_request}
use Rattle.sqlite.specs.Held.{Held}
use Rattle.sqlite.specs.State.{State}
use Rattle.rbac_sets.specs.declared.refusal.Refusal.TheVariants.{BadRequest, Memory}
use Rattle.rbac_sets.proofs.Known.{Consumes-more}
use Rattle.admin_mgr.specs.RbacState.{RbacState}
use Rattle.role_json.specs.Answer.{refusal_text}
use Rattle.role_json.specs.RequestContent.{RequestContent}
use Rattle.role_functions.specs.declared.function.Function.{Function}
use Rattle.role_http.specs.HeadAnswer.{AnswersConsumed, RefusesBytes, with_left}
use Rattle.role_http.specs.Head.{HasHead, ConsumesHead}
use Rattle.role_http.specs.HeadChecks.{judged_head}
use Rattle.role_http.specs.ReplyBytes.{reply_bytes}
use Rattle.role_http.proofs.Heads.{HasHead-append, with_left-later, heads_are_unique, refused_have_no_head}
use Rattle.role_tables.specs.Office.{OfficeModel}
use Rattle.role_wire.specs.Events.{AddsReading, AddsUndone}
use Rattle.role_wire.specs.private.PreparedReply.{AnswersBody, IsReadAs}
use Rattle.role_wire.specs.Reply.{Asks, Replies, RepliesOnce, Reply, TakesNoFurther, called_for, head_body, reply_of, reply_to}
use Rattle.role_wire.specs.ServedRequest.{IsAnsweredInstead, LeavesUnanswered, StopsAt, AnswersBytes}
use Rattle.role_wire.specs.declared.lines.Cause.{Cause}
use Rattle.role_wire.specs.declared.lines.Cause.TheVariants as cause
use Rattle.role_wire.specs.declared.prepared_reply.PreparedReply.{PreparedReply}
use Rattle.role_wire.proofs.Calling.{with_left-end}
use Rattle.role_wire.proofs.Performed.{stays}
use Rattle.role_wire.proofs.HttpAnswers.{asks_nothing, has_no_memory}
use Rattle.role_wire.proofs.Judged.{undone_reaches}

-- ---- no byte after the request

-- a whole head and at most its body were read
further : (S : RbacState) (bytes rest taken : List ℕ) (head : RequestHead) → HasHead (bytes ++ rest) head rest → length bytes ≡ length (print_request head)
    → length taken ≤ (reply_to S head rest).taken → TakesNoFurther S (bytes ++ rest) (bytes ++ taken)
further S bytes rest taken head has whole few = (
  λ other after stands.
      let same = heads_are_unique (bytes ++ rest) head other rest after has stands in
      subst (λ h. length (bytes ++ taken) ≤ length (print_request h) + (reply_to S h after).taken) same.0
      (subst (λ r. length (bytes ++ taken) ≤ length (print_request head) + (reply_to S head r).taken) same.1 (omega (arith, few, whole, length-append bytes taken))),
  λ none. absurd (none head rest has),
)

-- bytes within the head were read
pub within_head : (S : RbacState) (old new : Option (List ℕ)) (taken : List ℕ) → ConsumesHead old new taken → TakesNoFurther S (with_left taken new) taken
within_head S old new taken takes = (
  λ head rest has.
      let (later, same) = with_left-later taken new in
      let few = takes.1 later head rest (rw same at has.0) in
      omega (arith, few),
  λ none. takes.2,
)

with_left-append : (taken more : List ℕ) (left : Option (List ℕ)) → with_left (taken ++ more) left ≡ taken ++ with_left more left
with_left-append taken more None = refl
with_left-append taken more (Some ys) = append_assoc taken more ys

length-head : (bytes : List ℕ) (head : RequestHead) → HasHead bytes head [] → length bytes ≡ length (print_request head)
length-head bytes head has = ap length (has.0.1 ∙ append-nil (print_request head))

-- bytes that are refused as no head are answered 400 only if they don't begin with a head, not even with one beyond the limits
which_refused : (bytes : List ℕ) (left : Option (List ℕ)) (status : ℕ) → RefusesBytes bytes left (Err status) → ((status ≡ 400) × HasNoRequest (with_left bytes left)) ⊎ (status ≡ 431)
which_refused bytes left status (inl (bad, inl never)) =
    let (later, same) = with_left-later bytes left in
    inl (bad, rw same (never later))
which_refused bytes left status (inl (bad, inr (none, at_end))) = inl (bad, rw (with_left-end bytes left at_end) none)
which_refused bytes left status (inr (large, why)) = inr large

-- ---- what the bytes ask for

-- the bytes after a head ask for this, from the result of judging the head
abbrev ReadsBy : List ℕ → RequestContent → Result (Function × ℕ) ℕ → Type 0
ReadsBy rest asked (Ok (called, count)) = called_for rest called count ≡ Ok asked
ReadsBy rest asked (Err status) = ⊥

-- for the head at the front of the bytes
asked_by : (bytes rest : List ℕ) (head : RequestHead) (judged : Result (Function × ℕ) ℕ) → HasHead bytes head rest → judged_head head ≡ judged → (asked : RequestContent) → Asks bytes asked → ReadsBy rest asked judged
asked_by bytes rest head judged has is asked (other, after, stands, (called, count, call, reads)) =
    let same = heads_are_unique bytes other head after rest stands has in
    subst (ReadsBy rest asked) (sym call ∙ ap judged_head same.0 ∙ is) (subst (λ r. called_for r called count ≡ Ok asked) same.1 reads)

-- a request with a head within the limits has only one reply
one_reply : (S : RbacState) (bytes : List ℕ) (head : RequestHead) (rest : List ℕ) → HasHead bytes head rest → (reply : Reply) → Replies S bytes reply → reply ≡ reply_to S head rest
one_reply S bytes head rest has reply (inl (other, after, stands, is)) =
    let same = heads_are_unique bytes other head after rest stands has in
    is ∙ ap (λ h. reply_to S h after) same.0 ∙ ap (reply_to S head) same.1
one_reply S bytes head rest has reply (inr none) = absurd (none.0 head rest has)

pub replies_once : RepliesOnce
replies_once S bytes head rest has first second one two = one_reply S bytes head rest has first one ∙ sym (one_reply S bytes head rest has second two)

module _ {S : Type 0} (shown : Held S → State) where
  -- a reply to a request in these bytes, before it is written
  abbrev Replied : OfficeModel S → Option (List ℕ) → Option (List ℕ) → ℕ → List ℕ → OfficeModel S → Type 0
  Replied old source end status body new = (taken : List ℕ) × Consumes source end taken × TakesNoFurther old.facts (with_left taken end) taken × AnswersBytes shown old (with_left taken end) status body new

  abbrev HasNoReply : Cause → OfficeModel S → Option (List ℕ) → Option (List ℕ) → OfficeModel S → Type 0
  HasNoReply why old source end new = (taken : List ℕ) × Consumes source end taken × TakesNoFurther old.facts (with_left taken end) taken × LeavesUnanswered shown why old (Asks (with_left taken end)) new

  -- ---- answers

  in_place : (old new : OfficeModel S) (status : ℕ) (body : List ℕ) (First Then : RequestContent → Type 0) → ((asked : RequestContent) → First asked → Then asked) → IsAnsweredInstead shown old First status body new
      → IsAnsweredInstead shown old Then status body new
  in_place old new status body First Then step (inl (is, told, reaches)) = inl (is, told, undone_reaches shown old new First Then step reaches)
  in_place old new status body First Then step (inr (inl (is, told, (asked, for, broke)))) = inr (inl (is, told, (asked, step asked for, broke)))
  in_place old new status body First Then step (inr (inr (is, told, shut, same, (asked, for)))) = inr (inr (is, told, shut, same, (asked, step asked for)))

  tells_called : (old new : OfficeModel S) (bytes rest : List ℕ) (head : RequestHead) (called : Function) (count : ℕ) (made : PreparedReply) → HasHead (bytes ++ rest) head rest
      → judged_head head ≡ Ok (called, count) → AnswersBody shown old (called_for rest called count) made new → AnswersBytes shown old (bytes ++ rest) made.status (cow_str_bytes made.body) new
  unfolding reply_to
  tells_called old new bytes rest head called count made has is (told, closed) = (
    elim told [
      | inl told ↦ inl (reply_of old.facts (length (take count rest)) (called_for rest called count), inl (head, rest, has, rw is refl), told (length (take count rest)))
      | inr place ↦ inr (in_place old new made.status (cow_str_bytes made.body) (IsReadAs (called_for rest called count)) (Asks (bytes ++ rest)) (λ asked read. (head, rest, has, (called, count, is, read))) place)
    ],
    λ shut. ((closed shut).0, λ asked asks. (closed shut).1 asked (asked_by (bytes ++ rest) rest head (Ok (called, count)) has is asked asks)),
  )

  leaves_called : (why : Cause) (old new : OfficeModel S) (bytes rest : List ℕ) (head : RequestHead) (called : Function) (count : ℕ) → HasHead (bytes ++ rest) head rest
      → judged_head head ≡ Ok (called, count) → LeavesUnanswered shown why old (IsReadAs (called_for rest called count)) new → LeavesUnanswered shown why old (Asks (bytes ++ rest)) new
  leaves_called cause.Read old new bytes rest head called count has is left = left
  leaves_called cause.Memory old new bytes rest head called count has is (asked, read, works, accepted, reaches) = (asked, (head, rest, has, (called, count, is, read)), works, accepted, reaches)
  leaves_called cause.Write old new bytes rest head called count has is left = absurd left
  leaves_called (cause.Line n) old new bytes rest head called count has is left = absurd left
  leaves_called cause.Store old new bytes rest head called count has is left = absurd left
  leaves_called cause.Closed old new bytes rest head called count has is left = absurd left

  -- ---- reading in two steps

  pub made_called : (old new : OfficeModel S) (source mid end : Option (List ℕ)) (called : Function) (count : ℕ) (made : PreparedReply)
      → ((taken : List ℕ) × ConsumesHead source mid taken × AnswersConsumed taken mid (Ok (called, count)))
      → ((taken : List ℕ) × Consumes mid end taken × (length taken ≤ length (take count (with_left taken end))) × AnswersBody shown old (called_for (with_left taken end) called count) made new)
      → Replied old source end made.status (cow_str_bytes made.body) new
  unfolding reply_to
  made_called old new source mid end called count made (bytes, first, inl (head, has, is)) (more, later, part, comes) =
      let stands = HasHead-append bytes (with_left more end) head has in
      let all = with_left-append bytes more end in (
        bytes ++ more,
        Consumes-more source mid end bytes more first.0 later,
        subst (λ l. TakesNoFurther old.facts l (bytes ++ more)) (sym all) (further old.facts bytes (with_left more end) more head stands (length-head bytes head has) (rw is part)),
        subst (λ l. AnswersBytes shown old l made.status (cow_str_bytes made.body) new) (sym all) (tells_called old new bytes (with_left more end) head called count made stands is comes),
      )
  made_called old new source mid end called count made (bytes, first, inr none) second = absurd none

  pub left_called : (why : Cause) (old new : OfficeModel S) (source mid end : Option (List ℕ)) (called : Function) (count : ℕ)
      → ((taken : List ℕ) × ConsumesHead source mid taken × AnswersConsumed taken mid (Ok (called, count)))
      → ((taken : List ℕ) × Consumes mid end taken × (length taken ≤ length (take count (with_left taken end))) × LeavesUnanswered shown why old (IsReadAs (called_for (with_left taken end) called count)) new)
      → HasNoReply why old source end new
  unfolding reply_to
  left_called why old new source mid end called count (bytes, first, inl (head, has, is)) (more, later, part, leaves) =
      let stands = HasHead-append bytes (with_left more end) head has in
      let all = with_left-append bytes more end in (
        bytes ++ more,
        Consumes-more source mid end bytes more first.0 later,
        subst (λ l. TakesNoFurther old.facts l (bytes ++ more)) (sym all) (further old.facts bytes (with_left more end) more head stands (length-head bytes head has) (rw is part)),
        subst (λ l. LeavesUnanswered shown why old (Asks l) new) (sym all) (leaves_called why old new bytes (with_left more end) head called count stands is leaves),
      )
  left_called why old new source mid end called count (bytes, first, inr none) second = absurd none

  -- a head that is refused
  pub made_head : (office : OfficeModel S) (source mid : Option (List ℕ)) (status told : ℕ) (body : List ℕ) → ((taken : List ℕ) × ConsumesHead source mid taken × AnswersConsumed taken mid (Err status))
      → told ≡ status → body ≡ head_body status → Replied office source mid told body office
  unfolding reply_to
  made_head office source mid status told body (bytes, first, inl (head, has, is)) same text =
      let (later, all) = with_left-later bytes mid in
      let stands = subst (λ l. HasHead l head later) (sym all) (HasHead-append bytes later head has) in (
        bytes,
        first.0,
        within_head office.facts source mid bytes first,
        (
          inl (
            record { status = status; body = head_body status; read = Err BadRequest; after = office.facts; taken = 0 },
            inl (head, later, stands, rw is refl),
            (same, text, stays shown office (AddsReading office.facts (Err BadRequest)) refl),
          ),
          asks_nothing office office (Asks (with_left bytes mid)) told body refl (asked_by (with_left bytes mid) later head (Err status) stands is),
        ),
      )
  made_head office source mid status told body (bytes, first, inr refuses) same text = (
    bytes,
    first.0,
    within_head office.facts source mid bytes first,
    (
      inl (
        record { status = status; body = head_body status; read = Err BadRequest; after = office.facts; taken = 0 },
        inr (refused_have_no_head bytes mid (Err status) refuses, which_refused bytes mid status refuses, refl, refl, refl),
        (same, text, stays shown office (AddsReading office.facts (Err BadRequest)) refl),
      ),
      asks_nothing office office (Asks (with_left bytes mid)) told body refl
          (λ asked (head, rest, has, call). refused_have_no_head bytes mid (Err status) refuses head rest has),
    ),
  )

  -- reading stopped within the head
  pub made_stopped : (office : OfficeModel S) (source mid : Option (List ℕ)) (status : ℕ) (body : List ℕ) → ((taken : List ℕ) × ConsumesHead source mid taken × HasNoRequest taken) → status ≡ 503 → body ≡ refusal_text Memory
      → Replied office source mid status body office
  made_stopped office source mid status body (bytes, first, none) same text = (
    bytes,
    first.0,
    within_head office.facts source mid bytes first,
    (inr (inl (same, text, stays shown office (AddsUndone office.facts (Asks (with_left bytes mid))) (inl refl))), has_no_memory office office (Asks (with_left bytes mid)) status body refl same text),
  )

  pub left_stopped : (office : OfficeModel S) (source mid : Option (List ℕ)) → ((taken : List ℕ) × ConsumesHead source mid taken × HasNoRequest taken) → HasNoReply cause.Read office source mid office
  left_stopped office source mid (bytes, first, none) = (bytes, first.0, within_head office.facts source mid bytes first, refl)

  -- ---- writing

  -- before a byte was read
  pub made_at_once : (office : OfficeModel S) (source : Option (List ℕ)) (status : ℕ) (body : List ℕ) → Consumes source source [] → status ≡ 503 → body ≡ refusal_text Memory → Replied office source source status body office
  made_at_once office source status body none same text = (
    [],
    none,
    (λ head rest has. omega arith, λ past. omega arith),
    (inr (inl (same, text, stays shown office (AddsUndone office.facts (Asks (with_left [] source))) (inl refl))), has_no_memory office office (Asks (with_left [] source)) status body refl same text),
  )

  -- a reply that was written
  pub sent : (old new : OfficeModel S) (source end written now_written : Option (List ℕ)) (status told : ℕ) (body : List ℕ) → Replied old source end status body new → told ≡ status
      → Appends written now_written (reply_bytes status body)
      → (taken : List ℕ) × Consumes source end taken × TakesNoFurther old.facts (with_left taken end) taken
      × ((text : List ℕ) × AnswersBytes shown old (with_left taken end) told text new × Appends written now_written (reply_bytes told text))
  sent old new source end written now_written status told body (taken, first, few, tells) same appended = (taken, first, few, (body, rw same tells, rw same appended))

  -- a reply that was written in part
  pub sent_part : (why : Cause) (old new : OfficeModel S) (source end written now_written : Option (List ℕ)) (status : ℕ) (body : List ℕ) → Replied old source end status body new → why ≡ cause.Write
      → ((part rest : List ℕ) × (reply_bytes status body ≡ part ++ rest) × (1 ≤ length rest) × Appends written now_written part)
      → (taken : List ℕ) × Consumes source end taken × TakesNoFurther old.facts (with_left taken end) taken × StopsAt shown why old (with_left taken end) new written now_written
  sent_part why old new source end written now_written status body (taken, first, few, tells) same part = (taken, first, few, rw same (status, body, tells, part))
