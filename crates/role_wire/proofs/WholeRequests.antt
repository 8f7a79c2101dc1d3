-- Whether the bytes that were read are a whole request.
use Rattle.std.proofs.Common.{◌≡◌, ◌∙◌, inl, inr, ℕ, Bool, false, IsTrue, List, [], ◌++◌, length, Option, Result, Ok, Err, ap, sym, subst}
use Rattle.std.specs.Prelude.{◌↔◌}
use Rattle.std.proofs.lemmas.Bool.{false≢true}
use Rattle.std.specs.Io.KnownBytes.{Consumes}
use Rattle.httparse.specs.Grammar.{HasNoRequest, RequestHead}
use Rattle.httparse.proofs.GrammarLemmas.{ReadsRequest-append}
use Rattle.rbac_sets.proofs.Known.{Consumes-more}
use Rattle.role_functions.specs.declared.function.Function.{Function}
use Rattle.role_http.specs.Head.{ConsumesHead, HasHead}
use Rattle.role_http.specs.HeadAnswer.{AnswersConsumed}
use Rattle.role_http.specs.HeadChecks.{judged_head}
use Rattle.role_http.proofs.Heads.{HasHead-append, heads_are_unique, refused_have_no_head, with_left-later}
use Rattle.role_wire.specs.Reply.{IsWholeRequest, SaysIfWhole}

-- ---- bytes that are no whole request

-- if they don't begin with a head
not_whole : (bytes : List ℕ) → HasNoRequest bytes → ¬ (IsWholeRequest bytes)
not_whole bytes none (head, body, has, call) = none head body has.0

-- if their head is refused
not_whole_refused : (bytes : List ℕ) (left : Option (List ℕ)) (status : ℕ) → AnswersConsumed bytes left (Err status) → ¬ (IsWholeRequest bytes)
not_whole_refused bytes left status (inl (head, has, is)) (other, body, stands, (called, count, call, whole)) =
    let same = heads_are_unique bytes head other [] body has stands in
    let refused : judged_head other ≡ Err status = ap judged_head (sym same.0) ∙ is in
    cc (refused, call)
not_whole_refused bytes left status (inr refuses) (other, body, stands, call) =
    let (later, same) = with_left-later bytes left in
    refused_have_no_head bytes left (Err status) refuses other (body ++ later)
    (subst (λ l. HasHead l other (body ++ later)) (sym same) (ReadsRequest-append bytes other body later stands.0, stands.1, stands.2))

-- ---- a head and what follows it

-- the number of bytes of a body, from the result of judging its head
count_in : Result (Function × ℕ) ℕ → ℕ
count_in (Ok (called, count)) = count
count_in (Err status) = 0

whole_by_length : (bytes body : List ℕ) (head : RequestHead) (called : Function) (count : ℕ) → HasHead bytes head [] → judged_head head ≡ Ok (called, count)
    → (length body ≡ count) ↔ IsWholeRequest (bytes ++ body)
unfolding count_in
whole_by_length bytes body head called count has is =
    let all = HasHead-append bytes body head has in (
      λ whole. (head, body, all, (called, count, is, whole)),
      λ (other, after, stands, (again, long, call, whole)).
          let same = heads_are_unique (bytes ++ body) head other body after all stands in
          ap length same.1 ∙ whole ∙ sym (ap count_in (sym is ∙ ap judged_head same.0 ∙ call)),
    )

pub says_called : (source mid end : Option (List ℕ)) (called : Function) (count : ℕ) (has_read_all : Bool)
    → ((taken : List ℕ) × ConsumesHead source mid taken × AnswersConsumed taken mid (Ok (called, count)))
    → ((taken : List ℕ) × Consumes mid end taken × (IsTrue has_read_all ↔ (length taken ≡ count))) → SaysIfWhole source end has_read_all
says_called source mid end called count has_read_all (bytes, first, inl (head, has, is)) (body, later, says) =
    let by_length = whole_by_length bytes body head called count has is in
    (bytes ++ body, Consumes-more source mid end bytes body first.0 later, (λ all. by_length.0 (says.0 all), λ whole. says.1 (by_length.1 whole)))
says_called source mid end called count has_read_all (bytes, first, inr none) second = absurd none

-- ---- a reply before the body was read

says_not : (source mid : Option (List ℕ)) (has_read_all : Bool) (bytes : List ℕ) → has_read_all ≡ false → Consumes source mid bytes → ¬ (IsWholeRequest bytes) → SaysIfWhole source mid has_read_all
says_not source mid has_read_all bytes unread first none =
    rw unread (bytes, first, (λ all. absurd (false≢true all), λ whole. absurd (none whole)))

pub says_refused : (source mid : Option (List ℕ)) (status : ℕ) (has_read_all : Bool) → ((taken : List ℕ) × ConsumesHead source mid taken × AnswersConsumed taken mid (Err status))
    → has_read_all ≡ false → SaysIfWhole source mid has_read_all
says_refused source mid status has_read_all (bytes, first, answers) unread = says_not source mid has_read_all bytes unread first.0 (not_whole_refused bytes mid status answers)

pub says_stopped : (source mid : Option (List ℕ)) (has_read_all : Bool) → ((taken : List ℕ) × ConsumesHead source mid taken × HasNoRequest taken)
    → has_read_all ≡ false → SaysIfWhole source mid has_read_all
says_stopped source mid has_read_all (bytes, first, none) unread = says_not source mid has_read_all bytes unread first.0 (not_whole bytes none)
