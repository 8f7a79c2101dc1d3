-- What the bytes that were read of a CSV file say about its text.
use Rattle.std.proofs.Common.{◌≡◌, ◌≤◌, ◌<◌, ◌+◌, ◌++◌, ◌∙◌, ℕ, List, [], false, Err, arith, inl, inr, sym, ap, subst, length}
use Rattle.std.specs.Prelude.{take, nat_le, if◌then◌else◌}
use Rattle.std.proofs.lemmas.Bool.Decides.{leb_tells}
use Rattle.std.proofs.lemmas.List.{append-nil, length-take-le, take_all}
use Rattle.std.proofs.Math.Seq.{take-append_seam}
use Rattle.rbac_sets.specs.declared.kind.Kind.TheVariants as kind
use Rattle.rbac_sets.specs.declared.refusal.Refusal.TheVariants.{TooMany}
use Rattle.role_csv.specs.Assignments.{assignments, most_bytes, under_header}
use Rattle.role_csv.specs.Records.{records_of}
use Rattle.role_cli.specs.Environment.{StartDecides}

-- a text that is too long is refused
too_long : (text : List ℕ) → nat_le (length text) most_bytes ≡ false → assignments text ≡ Err (TooMany kind.Byte)
unfolding assignments
too_long text above = ap (λ b. if b then under_header (records_of text) else Err (TooMany kind.Byte)) above

-- so is its beginning
pub start_decides : StartDecides
start_decides text = elim (leb_tells (length text) most_bytes) [
  | inl (_, fits) ↦ ap assignments (take_all (most_bytes + 1) text (omega (arith, fits)))
  | inr (above, more) ↦
      let begin = length-take-le (most_bytes + 1) text (omega (arith, more)) in
      let long : nat_le (length (take (most_bytes + 1) text)) most_bytes ≡ false = elim (leb_tells (length (take (most_bytes + 1) text)) most_bytes) [
        | inl (_, fits) ↦ absurd (omega (arith, fits, begin))
        | inr (is, _) ↦ is
      ] in
      too_long (take (most_bytes + 1) text) long ∙ sym (too_long text above)
]

-- what was read of a source whose bytes are known: all of them, or as many as were asked for
pub reads_start : (text bytes rest : List ℕ) (most : ℕ) → text ≡ bytes ++ rest → length bytes ≤ most → (length bytes < most → rest ≡ []) → bytes ≡ take most text
reads_start text bytes rest most is within at_end = elim (leb_tells most (length bytes)) [
  | inl (_, full) ↦
      let same : length bytes ≡ most = omega (arith, full, within) in
      subst (λ n. bytes ≡ take n text) same (subst (λ t. bytes ≡ take (length bytes) t) (sym is) (sym (take-append_seam bytes rest)))
  | inr (_, short) ↦
      let whole : text ≡ bytes = is ∙ ap (λ r. bytes ++ r) (at_end short) ∙ append-nil bytes in
      sym (ap (take most) whole ∙ take_all most bytes within)
]
