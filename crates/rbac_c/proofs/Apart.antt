-- The machine value of a box that is taken apart: the allocator's, then the pointer. Assumes `Logic`.
use Rattle.std.proofs.Common.{◌≡◌, ℕ, List, [], ◌∷◌, ◌++◌, refl, ap, ◌∙◌}
use mathlib.Core.Bool.{true, ◌&&◌}
use lib.Dec.{T}
use seplogic.Ra.Ura.{Ura}
use mir.Raw.{raw as bare}
use mir.Syntax.{impl, tnil, dnil}
use mir.Val.{Val, vptr, vstruct, vcons, vnil, of_list, has_ty, WT}
use base.Logic.{never, fst∗}
use types.Logic.{Logic, sem}
use types.Kit.{Item, Goal, Seq, Step, step, ‵, ◌$◌, move, drop, fsplit, fjoin, fpick, fpack, feq_i, feq_l}
use denote.Builtin.{RawPtr}
use denote.Memory.{lone}
use denote.Param.{layout}
use denote.Param.Laws.{Laws}
use denote.RattleType.{RattleType, Valss}
use denote.RawPtr.{Ptr, block_ptr, null_ptr, ptr_val, in_a_block}
use denote.Steps.{nothing}
use denote.Struct.Owning.{shape}
use denote.Struct.Struct.{within}
use Rattle.core.specs.declared.alloc.Allocator.{Ghosts}
use Rattle.core.proofs.alloc.Calls.{Al, handle_tells}
use Rattle.core.proofs.cell.Inside.{Good}
use Rattle.std_alloc.specs.Box.Ownership.{box_owns}
use Rattle.std_alloc.proofs.ResultValues.{and_tt}
use Rattle.rbac_c.specs.contracts.detached.Detached as detached

module _ (R Z : RattleType) (L : Laws Z) (g : Ghosts Z.Denot) where
  abbrev pub Row : RattleType
  Row = detached.the_row R Z g

  abbrev allocator : Al
  allocator = record { row = Z; laws = L; g = g; d = impl [] tnil dnil; drops = impl [] tnil dnil }

  -- at the allocator's value h, and a pointer into the block b
  abbrev pub parts : Val → ℕ → ℕ → Val
  parts h b o = vstruct (vcons h (vcons (vptr b o) vnil))

  pub parts_typed : (h : Val) (b o : ℕ) → Good (layout Z) h → T (has_ty (layout Z) h && true) × WT (parts h b o)
  parts_typed h b o fits = (and_tt (has_ty (layout Z) h) fits.0, (fits.1, (tt, tt)))

  module _ {M : Type 1} {𝓤 : Ura M} {𝓛 : Logic 𝓤} {K : Type 0} {Γ : List (Item 𝓤)} {G : Goal 𝓤 𝓛.H} where
    -- what it owns: the value in its block with the right to free that, and the allocator
    pub apart_out : K → (d : Row.Denot) (vs : List Val)
        → ((h : Val) (b o : ℕ) → d.at ≡ block_ptr b o → vs ≡ parts h b o ∷ [] → Good (layout Z) h → Seq K 𝓛 (‵ (box_owns (g.dealloc_token d.alloc) R (block_ptr b o) d.value) ∷ ‵ (Z.own_val d.alloc (h ∷ [])) ∷ Γ) G)
        → Seq K 𝓛 (‵ (Row.own_val d vs) ∷ Γ) G
    apart_out t d vs then =
        fsplit t $ fpick t (λ vss. fsplit t $ feq_l t (λ is. fsplit t $ handle_tells allocator t d.alloc vss.0 (λ h is_h fits.
        move t (1 ∷ []) $ fsplit t $ feq_l t (λ is_at. drop t $ move t (1 ∷ []) $
        in_a_block t d.at (λ p. box_owns (g.dealloc_token d.alloc) R p d.value) (fst∗ 𝓤 (never 𝓤) (sem 𝓛 (g.dealloc_token d.alloc (bare (lone R.mir)) null_ptr))) (λ b o at.
        then h b o at (is ∙ (λ i. vstruct (of_list (is_h i ++ ((is_at ∙ ap (λ (p : Ptr). ptr_val p ∷ []) at) i ++ []))) ∷ [])) fits)))))

    pub apart_in : K → (h : Val) (b o : ℕ) (a : Z.Denot) (x : R.Denot)
        → Step K 𝓛 (‵ (Row.own_val (record { alloc = a; at = block_ptr b o; value = x }) (parts h b o ∷ [])) ∷ Γ) G (‵ (box_owns (g.dealloc_token a) R (block_ptr b o) x) ∷ ‵ (Z.own_val a (h ∷ [])) ∷ Γ) G
    apart_in t h b o a x = step (λ rest. let v : Val = parts h b o in
        nothing t $ feq_i t (List Val) (vptr b o ∷ []) (vptr b o ∷ []) refl $ fjoin t $ move t (2 ∷ 0 ∷ []) $ fjoin t $ feq_i t (List Val) (v ∷ []) (v ∷ []) refl $ fjoin t $
        fpack t (Valss (Z ∷ RawPtr ∷ [])) (within (shape (detached.the_type R Z g)) (a, (block_ptr b o, tt)) (v ∷ [])) (h ∷ [], (vptr b o ∷ [], tt)) $ fjoin t $ rest)
