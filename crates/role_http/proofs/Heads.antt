-- Heads: each ends with a line feed, no byte past one is read, and bytes begin with at most one.
use Rattle.std.proofs.Common.{◌≡◌, ◌≤◌, ◌<◌, ◌∙◌, ◌⊎◌, ◌≢◌, inl, inr, ℕ, List, [], ◌∷◌, ◌++◌, length, drop, Option, Some, None, Ok, Err, append_assoc, length-append, take, ap, sym, refl, arith}
use Rattle.std.proofs.lemmas.List.{append-nil, same_from_push, take-append-drop, take-append-le, take_all}
use Rattle.std.proofs.lemmas.Bool.{cases_lt}
use Rattle.std.specs.List.{flat_map}
use Rattle.std.specs.Io.KnownBytes.{Consumes, Keeps}
use Rattle.httparse.specs.Ascii.{space}
use Rattle.httparse.specs.Grammar.{LineEnd, crlf, lf, print_end, print_blank, print_version, print_field, RequestHead, print_request, ReadsRequest, HasNoRequest}
use Rattle.httparse.proofs.GrammarLemmas.{ReadsRequest-append, request_unique}
use Rattle.rbac_sets.proofs.Known.{Consumes-kept, Consumes-more, Consumes-no_more}
use Rattle.role_http.specs.HeadAnswer.{with_left}
use Rattle.role_http.specs.Head.{HasHead, IsInHead, ConsumesHead, longest_head}
use Rattle.role_http.specs.HeadChecks.{judged_head}
use Rattle.role_http.specs.Laws.{AnswersAreOfHeads, HeadsAreUnique, RefusedHaveNoHead}

-- ---- the last byte of a head

end_last : (e : LineEnd) → (front : List ℕ) × (print_end e ≡ front ++ 10 ∷ [])
end_last crlf = (13 ∷ [], refl)
end_last lf = ([], refl)

after : (x y p f : List ℕ) → p ≡ f ++ 10 ∷ [] → x ++ (y ++ p) ≡ (x ++ (y ++ f)) ++ 10 ∷ []
after x y p f e = rw e (sym (append_assoc x (y ++ f) (10 ∷ []) ∙ ap (λ (z : List ℕ). x ++ z) (append_assoc y f (10 ∷ []))))

-- a head's last byte is a line feed
pub print_request-last : (h : RequestHead) → (front : List ℕ) × (print_request h ≡ front ++ 10 ∷ [])
unfolding print_request
print_request-last h =
    let e = end_last h.last in
    (_, after (print_blank h.blank ++ h.method ++ space ∷ h.target ++ space ∷ print_version h.minor ++ print_end h.line_end) (flat_map print_field h.fields) (print_end h.last) e.0 e.1)

-- a list is empty or has a last element
last_of : (xs : List ℕ) → (xs ≡ []) ⊎ ((front : List ℕ) × (x : ℕ) × (xs ≡ front ++ x ∷ []))
last_of [] = inl refl
last_of (x ∷ xs) = elim (last_of xs) [
  | inl e ↦ inr ([], x, ap (λ (z : List ℕ). x ∷ z) e)
  | inr p ↦ inr (x ∷ p.0, p.1, ap (λ (z : List ℕ). x ∷ z) p.2)
]

nothing : (f rest : List ℕ) → [] ≡ (f ++ 10 ∷ []) ++ rest → ⊥
nothing [] rest e = let f : ⊥ = cc in f
nothing (y ∷ f) rest e = let f : ⊥ = cc in f

-- no head is empty
pub no_request-nil : HasNoRequest []
no_request-nil h rest r =
    let p = print_request-last h in
    nothing p.0 rest (rw p.1 at r.1)

-- if the bytes before the last one don't begin with a head, a head includes the last one
pub whole_at_last : (bs : List ℕ) (b : ℕ) (h : RequestHead) (rest : List ℕ) → HasNoRequest bs → ReadsRequest (bs ++ b ∷ []) h rest → rest ≡ []
whole_at_last bs b h rest none r =
    elim (last_of rest) [
      | inl e ↦ e
      | inr p ↦
          let (front, x, e) = p in
          let whole : bs ++ b ∷ [] ≡ (print_request h ++ front) ++ x ∷ [] = r.1 ∙ rw e (sym (append_assoc (print_request h) front (x ∷ []))) in
          absurd (none h front (r.0, (same_from_push bs (print_request h ++ front) b x whole).0))
    ]

-- a byte that is not a line feed doesn't end a head
pub no_request-push : (bs : List ℕ) (b : ℕ) → HasNoRequest bs → b ≢ 10 → HasNoRequest (bs ++ b ∷ [])
no_request-push bs b none other h rest r =
    let e = whole_at_last bs b h rest none r in
    let (front, last) = print_request-last h in
    let whole : bs ++ b ∷ [] ≡ front ++ 10 ∷ [] = r.1 ∙ rw (e, append-nil (print_request h)) last in
    other (same_from_push bs front b 10 whole).1

-- ---- bytes that have no head yet

pub front_of : (a b c d : List ℕ) → a ++ b ≡ c ++ d → length a ≤ length c → c ≡ a ++ drop (length a) c
front_of a b c d e h =
    let left : take (length a) (a ++ b) ≡ a = take-append-le (length a) a b (omega arith) ∙ take_all (length a) a (omega arith) in
    let right : take (length a) (c ++ d) ≡ take (length a) c = take-append-le (length a) c d h in
    let same : take (length a) c ≡ a = sym right ∙ ap (take (length a)) (sym e) ∙ left in
    sym (take-append-drop (length a) c) ∙ ap (λ (z : List ℕ). z ++ drop (length a) c) same

-- a head that they begin ends past them, whatever follows
ends_past : (bytes later : List ℕ) → HasNoRequest bytes → (head : RequestHead) (rest : List ℕ) → ReadsRequest (bytes ++ later) head rest
    → length bytes < length (print_request head)
ends_past bytes later none head rest reads =
    elim (cases_lt (length bytes) (length (print_request head))) [
      | inl less ↦ less
      | inr fits ↦ absurd (none head (drop (length (print_request head)) bytes) (reads.0, front_of (print_request head) rest bytes later (sym reads.1) fits))
    ]

-- so one more byte is still within it
in_head : (bytes last : List ℕ) → HasNoRequest bytes → length last ≤ 1 → IsInHead (bytes ++ last)
in_head bytes last none one later head rest reads =
    let past = ends_past bytes (last ++ later) none head rest (rw (append_assoc bytes last later) at reads) in
    omega (arith, past, one, length-append bytes last)

-- they were read
pub ConsumesHead-all : (old new : Option (List ℕ)) (bytes : List ℕ) → HasNoRequest bytes → length bytes ≤ longest_head → Consumes old new bytes → ConsumesHead old new bytes
ConsumesHead-all old new bytes none short all = (all, rw (append-nil bytes) at (in_head bytes [] none (omega arith)), short)

-- they were read, and then nothing
pub ConsumesHead-kept : (old between new : Option (List ℕ)) (bytes : List ℕ) → HasNoRequest bytes → length bytes ≤ longest_head → Consumes old between bytes
    → Keeps between new → ConsumesHead old new bytes
ConsumesHead-kept old between new bytes none short before kept =
    ConsumesHead-all old new bytes none short (Consumes-no_more old between new bytes before (Consumes-kept between new kept))

-- one more byte was read
pub ConsumesHead-more : (old between new : Option (List ℕ)) (bytes : List ℕ) (byte : ℕ) → HasNoRequest bytes → length bytes < longest_head → Consumes old between bytes
    → Consumes between new (byte ∷ []) → ConsumesHead old new (bytes ++ byte ∷ [])
ConsumesHead-more old between new bytes byte none short before more =
    (Consumes-more old between new bytes (byte ∷ []) before more, in_head bytes (byte ∷ []) none (omega arith), rw (length-append bytes (byte ∷ [])) (omega (arith, short)))

-- ---- laws

pub heads_are_unique : HeadsAreUnique
heads_are_unique bytes head other rest after has has_other = request_unique bytes head other rest after has.0 has_other.0

-- a head that is all of the bytes is also the head of longer bytes that begin with them
pub HasHead-append : (bytes rest : List ℕ) (head : RequestHead) → HasHead bytes head [] → HasHead (bytes ++ rest) head rest
HasHead-append bytes rest head has = (ReadsRequest-append bytes head [] rest has.0, has.1, has.2)

-- what follows the bytes that were read
pub with_left-later : (taken : List ℕ) (left : Option (List ℕ)) → (later : List ℕ) × (with_left taken left ≡ taken ++ later)
with_left-later taken None = ([], sym (append-nil taken))
with_left-later taken (Some left) = (left, refl)

pub refused_have_no_head : RefusedHaveNoHead
refused_have_no_head taken left (Ok call) nothing head rest has = absurd nothing
refused_have_no_head taken left (Err status) (inl (bad, inl never)) head rest has =
    let (later, same) = with_left-later taken left in
    never later head rest (rw same at has.0)
refused_have_no_head taken None (Err status) (inl (bad, inr (none, at_end))) head rest has = none head rest has.0
refused_have_no_head taken (Some left) (Err status) (inl (bad, inr (none, at_end))) head rest has =
    let all : taken ++ left ≡ taken = rw at_end (append-nil taken) in
    none head rest (rw all at has.0)
refused_have_no_head taken left (Err status) (inr (large, inl many)) head rest has =
    let (later, same) = with_left-later taken left in
    let more = many.1 later head rest (rw same at has.0) in
    absurd (omega (arith, more, has.2))
refused_have_no_head taken left (Err status) (inr (large, inr long)) head rest has =
    let (later, same) = with_left-later taken left in
    let past = ends_past taken later long.0 head rest (rw same at has.0) in
    absurd (omega (arith, past, long.1, has.1))

pub answers_are_of_heads : AnswersAreOfHeads
answers_are_of_heads taken left answer (inl (own, has_own, is)) head rest has =
    let (later, same) = with_left-later taken left in
    let one = heads_are_unique (taken ++ later) own head later rest (HasHead-append taken later own has_own) (rw same at has) in
    (has_own.0.1 ∙ append-nil (print_request own) ∙ ap print_request one.0, sym is ∙ ap judged_head one.0)
answers_are_of_heads taken left answer (inr refused) head rest has = absurd (refused_have_no_head taken left answer refused head rest has)
