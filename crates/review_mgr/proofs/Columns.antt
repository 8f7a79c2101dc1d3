-- The text of the report.
use Rattle.std.proofs.Common.{◌≡◌, ℕ, ◌+◌, ◌<◌, List, [], ◌∷◌, ◌++◌, length, take, drop, get_or, zero, ◌≤◌, suc, arith, refl, sym, ◌∙◌, ap, subst, append_assoc}
use Rattle.std.specs.declared.cmp.Ordering.{Ordering}
use Rattle.std.specs.FinSet.{FinSet}
use Rattle.std.proofs.lemmas.List.{take_more, append-nil, length-append, take-append-drop}
use Rattle.rbac_sets.specs.Sets.{Bytes, len, members}
use Rattle.rbac_sets.proofs.Members.{len-members}
use Rattle.admin_mgr.specs.RbacState.{RbacState}
use Rattle.std.specs.Prelude.{OnErr, Result, Ok, Err, Option}
use Rattle.std.specs.Prelude.{◌-◌, replicate, codes}
use Rattle.std.proofs.lemmas.Str.{encode_ascii}
use Rattle.std.specs.List.{repeat}
use Rattle.std.specs.Fmt.{styled_decimal, format_spec, padded_integral, char_count}
use Rattle.std.specs.Io.KnownBytes.{Appends}
use Rattle.std.proofs.Math.Seq.{drop-cons}
use Rattle.rbac_sets.proofs.Runs.{take_whole}
use Rattle.rbac_sets.proofs.Known.{Appends-more}
use Rattle.review_mgr.specs.Report.{column, columns, counts_of, heading, line_of, lines_of, report}

-- a list of the members is as long as the set has members
pub counted : {K : Type 0} {R : K → K → Ordering} (s : FinSet R) (items : List K) (number : ℕ) → number ≡ length items → items ≡ members s → number ≡ len s
counted s items number is all = is ∙ ap length all ∙ sym (len-members s)

columns-append : (xs ys : List ℕ) → columns (xs ++ ys) ≡ columns xs ++ columns ys
columns-append [] ys = refl
columns-append (x ∷ xs) ys = ap (λ l. column x ++ l) (columns-append xs ys) ∙ sym (append_assoc (column x) (columns xs) (columns ys))

pub columns-more : (numbers : List ℕ) (i : ℕ) → i < length numbers → columns (take (i + 1) numbers) ≡ columns (take i numbers) ++ column (get_or numbers i 0)
columns-more numbers i within =
    ap columns (take_more numbers i 0 within)
    ∙ columns-append (take i numbers) (get_or numbers i 0 ∷ []) ∙ ap (λ l. columns (take i numbers) ++ l) (append-nil (column (get_or numbers i 0)))

lines-append : (S : RbacState) (xs ys : List Bytes) → lines_of S (xs ++ ys) ≡ lines_of S xs ++ lines_of S ys
lines-append S [] ys = refl
lines-append S (x ∷ xs) ys = ap (λ l. line_of S x ++ l) (lines-append S xs ys) ∙ sym (append_assoc (line_of S x) (lines_of S xs) (lines_of S ys))

pub lines-more : (S : RbacState) (roles : List Bytes) (i : ℕ) (role : Bytes) → i < length roles → role ≡ get_or roles i role → lines_of S (take (i + 1) roles) ≡ lines_of S (take i roles) ++ line_of S role
lines-more S roles i role within is =
    ap (lines_of S) (take_more roles i role within ∙ ap (λ x. take i roles ++ x ∷ []) (sym is))
    ∙ lines-append S (take i roles) (role ∷ []) ∙ ap (λ l. lines_of S (take i roles) ++ l) (append-nil (line_of S role))

-- ---- a start of the report

-- what was written so far and a proper start of what is written next are a proper start of the report
pub begun : (old between new : Option (List ℕ)) (whole so_far next after : List ℕ) → Appends old between so_far → (part rest : List ℕ) × (next ≡ part ++ rest) × (1 ≤ length rest) × Appends between new part
    → whole ≡ so_far ++ (next ++ after) → (part rest : List ℕ) × (whole ≡ part ++ rest) × (1 ≤ length rest) × Appends old new part
begun old between new whole so_far next after written (part, rest, is, some, more) all = (
  so_far ++ part,
  rest ++ after,
  all ∙ ap (λ l. so_far ++ (l ++ after)) is ∙ ap (λ l. so_far ++ l) (append_assoc part rest after) ∙ sym (append_assoc so_far part (rest ++ after)),
  omega (arith, length-append rest after, some),
  Appends-more old between new so_far part written more,
)

-- the report from a role on
lines-split : (S : RbacState) (roles : List Bytes) (i : ℕ) → lines_of S roles ≡ lines_of S (take i roles) ++ lines_of S (drop i roles)
lines-split S roles i = ap (lines_of S) (sym (take-append-drop i roles)) ∙ lines-append S (take i roles) (drop i roles)

pub report-split : (S : RbacState) (roles : List Bytes) (i : ℕ) → roles ≡ members S.roles → report S ≡ (heading ++ lines_of S (take i roles)) ++ lines_of S (drop i roles)
unfolding report
report-split S roles i all = ap (λ l. heading ++ lines_of S l) (sym all) ∙ ap (λ l. heading ++ l) (lines-split S roles i) ∙ sym (append_assoc heading (lines_of S (take i roles)) (lines_of S (drop i roles)))

pub report-step : (S : RbacState) (roles : List Bytes) (i : ℕ) (role : Bytes) → roles ≡ members S.roles → i < length roles → role ≡ get_or roles i role
    → report S ≡ (heading ++ lines_of S (take i roles)) ++ (line_of S role ++ lines_of S (drop (suc i) roles))
report-step S roles i role all within is = report-split S roles i all
    ∙ ap (λ l. (heading ++ lines_of S (take i roles)) ++ lines_of S l) (drop-cons roles i role within ∙ ap (λ x. x ∷ drop (suc i) roles) (sym is))

pub report-whole : (S : RbacState) (roles : List Bytes) (i : ℕ) → roles ≡ members S.roles → length roles ≤ i → heading ++ lines_of S (take i roles) ≡ report S
unfolding report
report-whole S roles i all past = ap (λ l. heading ++ lines_of S l) (take_whole i roles past ∙ all)

-- the report has at least one byte
pub report-some : (S : RbacState) → 1 ≤ length (report S)
unfolding report
report-some S = omega (arith, length-append heading (lines_of S (members S.roles)))

-- and so have a line, and the lines from a role on
counts-some : (numbers : List ℕ) (name : Bytes) → 1 ≤ length (counts_of numbers name)
counts-some numbers name = omega (arith, length-append (columns numbers) (codes "  " ++ (name ++ codes "\n")))

line-some : (S : RbacState) (role : Bytes) → 1 ≤ length (line_of S role)
unfolding line_of
line-some S role = search (counts-some)

pub lines-some : (S : RbacState) (roles : List Bytes) (i : ℕ) (role : Bytes) → i < length roles → 1 ≤ length (lines_of S (drop i roles))
lines-some S roles i role within =
    let first = get_or roles i role in
    let rest = lines_of S (drop (suc i) roles) in
    subst (λ l. 1 ≤ length (lines_of S l)) (sym (drop-cons roles i role within)) (omega (arith, length-append (line_of S first) rest, line-some S first))

-- ---- what is known of an error

pub on_err : {X E : Type 0} (P : Type 0) (r : Result X E) → P → OnErr r P
on_err P (Ok x) h = tt
on_err P (Err e) h = h

-- ---- a number, right-aligned in twelve places, is what `{:>12}` writes

spaces : (n : ℕ) → repeat {A = ℕ} n (32 ∷ []) ≡ replicate n 32
spaces zero = refl
spaces (suc n) = ap (λ l. 32 ∷ l) (spaces n)

less_nothing : (n : ℕ) → n - 0 ≡ n
less_nothing n = omega arith

nothing_left : (n : ℕ) → n - n ≡ 0
nothing_left n = omega arith

pub column-styled : (n : ℕ) → styled_decimal (format_spec 32 3 0 12 18446744073709551615) n ≡ column n
unfolding padded_integral char_count
column-styled n = simp (append-nil, less_nothing, nothing_left, encode_ascii 32 (omega arith), spaces)
