-- The office is read through a `&` to its place, for which the caller lends it.
use Rattle.std.proofs.Common.{ℕ, Bool, ◌<◌, ◌^◌, List, [], ◌∷◌, ◌++◌, length, refl, Bor, w32}
use Rattle.std.specs.Prelude.{ℤ}
use seplogic.Ra.Ura.{Ura}
use mir.Syntax.{named}
use mir.Val.{Val, vptr, vbool}
use base.Logic.{SProp, ent, sep, via, fst∗, snd∗, never, never_e, id⊢, ex_e}
use base.Fml.{Lft, Share, Fml, ftrue, fsep, flft}
use prog.Memory.{Memory}
use prog.Routine.{Routine}
use prog.Wp.{Calls, Loops, WpFn, Tables}
use types.Logic.{Logic, sem}
use contract.Monad.{Fun, fact}
use contract.Running.{tables, tables_of}
use types.Kit.{‵, raw, ◌⊛◌, some, later, ◌$◌, ◌∵◌, !, qed, by, move, drop, use1, split, join, pick, fsplit, fjoin, feq_i, suffices, frame, await, done}
use types.Run.{stop, of_opd, addr, no_more, and_then, returns, enter}
use types.ByLocal.{alloc_all, pass_all, free_all, look_at, get, through, sets, lands_as}
use sound.WpLaws.{FmC, fm_of, WpFn-mono}
use denote.Exit.{yes}
use denote.RattleType.{RattleType}
use denote.Laws.{Is, shows}
use denote.Opens.{hide}
use denote.Signed.{sint_Lawful}
use denote.Builtin.{i32, u8, bool, SliceRefOf}
use denote.Plain.{bool_vals, bool_Tells}
use denote.Slice.{ShrSlice, slice_val, shr_slice_vals, shr_slice_Tells}
use denote.Signature.{plain}
use contract.Lifetimes.{Lfts, Shares}
use denote.Memory.{shared_of}
use denote.RawPtr.{Ptr, block_ptr, null_ptr, block_of, count_of, RawPtr, rawptr_vals, rawptr_Tells}
use denote.SharingLaws.{contraction}
use denote.Steps.{peeks, heard, nothing}
use denote.Struct.Lending.{lent_at, lent_at_shr_laws}
use denote.Triple.Statement.{Contract, Triple}
use denote.Triple.Call.{calls_at}
use denote.Triple.Clauses.{ensured, lasts}
use denote.Triple.Entry.{on_entry}
use denote.Triple.Spec.{Meets, triple_of}
use denote.Triple.Table.{entered}
use denote.Triple.Walked.{says, Stays, stay_dropped, walk_of, Goes-dropped, ends_at, walked, walk_Meets}
use Rattle.role_lines.specs.contracts.office.MemoryOffice as office
use Rattle.role_lines.proofs.office.MemoryOffice.TheLaws as office_laws
use Rattle.rbac_c.specs.Held.{reads}
use Rattle.rbac_c.specs.Calls.{Decided}
use Rattle.rbac_c.specs.contracts.calls.check as of
use Rattle.rbac_c.proofs.calls.check.Symbol.{name as #check}
use Rattle.rbac_c.proofs.calls.check.Met as of_thm
use Rattle.rbac_c.specs.contracts.calls.rbac_office_check as f
use Rattle.rbac_c.specs.contracts.calls.rbac_office_check.Key.{name as key}
use Rattle.rbac_c.proofs.calls.rbac_office_check.Statement as stated
use Rattle.rbac_c.proofs.calls.rbac_office_check.Code as code

abbrev R : RattleType
R = office.the_row

abbrev stayed : Stays (f.ended).signature.params (f.ended).kept
stayed = (
  stay_dropped (plain (λ _. RawPtr)) yes,
  (
    stay_dropped (plain (λ _. bool)) yes,
    (
      stay_dropped (SliceRefOf (0 ∷ []) tt (plain (λ _. u8)) (λ _. tt)) yes,
      (
        stay_dropped (SliceRefOf (1 ∷ []) tt (plain (λ _. u8)) (λ _. tt)) yes,
        (stay_dropped (SliceRefOf (2 ∷ []) tt (plain (λ _. u8)) (λ _. tt)) yes, tt),
      ),
    ),
  ),
)

module _ {M : Type 1} {𝓤 : Ura M} (𝓛 : Logic 𝓤) (at_mem : Memory → SProp 𝓤) (run : Routine → Fun 𝓤) where
  abbrev Of : Contract 𝓤
  Of = triple_of 𝓛 of.signature (of.spec 𝓛 at_mem run)

module _ {M : Type 1} {𝓤 : Ura M} (𝓛 : Logic 𝓤) (at_mem : Memory → SProp 𝓤) (run : Routine → Fun 𝓤) (C : Calls 𝓤 𝓛.H) (Λ : Loops 𝓤 𝓛.H) (fm : FmC 𝓤 𝓛.H 𝓛.laws C)
    (known : Triple 𝓤 (C #check) (Of 𝓛 at_mem run)) (κ : Lft) (q : Share) (x : R.Denot)
    (κs : Lfts 3) (qs : Shares 3) (of_user : Bool) (s₁ s₂ s₃ : Bor (List ℕ)) where
  open 𝓛 use {H}

  abbrev Entry : Ptr → SProp 𝓤
  Entry p = on_entry 𝓛 f.signature κs qs (p, (of_user, (s₁, (s₂, (s₃, tt))))) (rawptr_vals p, (bool_vals of_user, (shr_slice_vals s₁, (shr_slice_vals s₂, (shr_slice_vals s₃, tt)))))

  abbrev bound : Ptr → (walk_of 𝓛 f.ended stayed (f.clauses 𝓛 at_mem run)).Ghost
  bound p = ((κs, qs, tt, (p, (of_user, (s₁, (s₂, (s₃, tt))))), (rawptr_vals p, (bool_vals of_user, (shr_slice_vals s₁, (shr_slice_vals s₂, (shr_slice_vals s₃, tt)))))), (κ, q, x))

  abbrev Runs : Ptr → SProp 𝓤
  Runs p = WpFn 𝓤 H C Λ code.function (rawptr_vals p ++ (bool_vals of_user ++ (shr_slice_vals s₁ ++ (shr_slice_vals s₂ ++ (shr_slice_vals s₃ ++ []))))) ((walk_of 𝓛 f.ended stayed (f.clauses 𝓛 at_mem run)).post (bound p))

  module _ (b o : ℕ) where
    abbrev p : Ptr
    p = block_ptr b o

    abbrev Alive : SProp 𝓤
    Alive = sep 𝓤 (sem 𝓛 (flft κs.0 qs.0)) (sep 𝓤 (sem 𝓛 (flft κs.1.0 qs.1.0)) (sep 𝓤 (sem 𝓛 (flft κs.1.1.0 qs.1.1.0)) (sem 𝓛 ftrue)))

    abbrev Slices : Fml
    Slices = fsep (bool.own_val of_user (bool_vals of_user)) (fsep ((ShrSlice (named 0) κs.0 u8).own_val s₁ (shr_slice_vals s₁)) (fsep ((ShrSlice (named 1) κs.1.0 u8).own_val s₂ (shr_slice_vals s₂)) (fsep ((ShrSlice (named 2) κs.1.1.0 u8).own_val s₃ (shr_slice_vals s₃)) ftrue)))

    exits : (r : ℤ) (v : Val) → Decided x of_user s₁.now s₂.now s₃.now r → ent 𝓤 (sep 𝓤 (sem 𝓛 (reads R p κ q x)) (sep 𝓤 (sem 𝓛 (i32.own_val r (v ∷ []))) Alive))
        ((walk_of 𝓛 f.ended stayed (f.clauses 𝓛 at_mem run)).post (bound p) v)
    exits r v e =
        qed 𝓛 (‵ (reads R p κ q x) ∷ ‵ (i32.own_val r (v ∷ [])) ∷ raw Alive ∷ []) ∵
        suffices ! _ (ends_at 𝓛 f.ended stayed (f.clauses 𝓛 at_mem run) (bound p) v r (tt, (tt, (tt, (tt, (tt, tt))))) (tt, (tt, (tt, (tt, (tt, tt)))))) $
        nothing ! $ nothing ! $ fjoin ! $ nothing ! $ fjoin ! $ nothing ! $ fjoin ! $ nothing ! $ fjoin ! $ nothing ! $ fjoin ! $
        -- [what is left of the parameters; the office; the number; the tokens]
        move ! (0 ∷ 2 ∷ []) $ join ! $ move ! (2 ∷ 0 ∷ []) $ join ! $ frame ! $ says ! e $ done !

    walk : length s₁.now < 2 ^ 64 → length s₂.now < 2 ^ 64 → length s₃.now < 2 ^ 64 → ent 𝓤 (sep 𝓤 (sem 𝓛 (reads R p κ q x)) (Entry p)) (Runs p)
    walk f₁ f₂ f₃ =
        let s : Bor R.Denot = record { ref_ptr = (b, o); now = x } in
        let y : (Of 𝓛 at_mem run).Ghost = (((κ, κs), (q, qs), tt, (s, (of_user, (s₁, (s₂, (s₃, tt))))), (vptr b o ∷ [], (bool_vals of_user, (shr_slice_vals s₁, (shr_slice_vals s₂, (shr_slice_vals s₃, tt)))))), tt) in
        qed 𝓛 (‵ (reads R p κ q x) ∷ (raw Alive ⊛ ‵ (fsep (RawPtr.own_val p (rawptr_vals p)) Slices)) ∷ []) ∵ enter ! C Λ code.function (vptr b o ∷ vbool of_user ∷ slice_val s₁.ref_ptr (length s₁.now) ∷ slice_val s₂.ref_ptr (length s₂.now) ∷ slice_val s₃.ref_ptr (length s₃.now) ∷ []) _ $
        alloc_all ! (λ l. pass_all ! refl ((tt, tt), ((tt, tt), ((tt, (tt, (record { fits = f₁ }, tt))), ((tt, (tt, (record { fits = f₂ }, tt))), ((tt, (tt, (record { fits = f₃ }, tt))), tt))))) $
        sets ! (of_opd ! (get ! refl)) refl (tt, tt) $
        -- [the token; the office, lent; the tokens, and what the parameters own; the locals]
        fsplit ! $ move ! (1 ∷ []) $ use1 𝓛 (‵ (lent_at R p x κ) ⊛ ‵ (lent_at R p x κ)) (contraction 𝓛 (lent_at R p x) (lent_at_shr_laws R office_laws.the_row_laws.shr_laws p x) κ) $ split ! $
        fsplit ! $ drop ! $ hide ! $ feq_i ! (List Val) (vptr b o ∷ []) (vptr b o ∷ []) refl $ fjoin ! $
        sets ! (addr ! (through ! refl (stop !))) refl (tt, tt) $
        -- [the reference; the office, lent; the token; the tokens, and what the parameters own]
        move ! (3 ∷ []) $ split ! $ move ! (1 ∷ []) $ fsplit ! $ drop ! $ move ! (2 ∷ 0 ∷ []) $ fjoin ! $
        -- [what the call gets; the tokens; the office, lent; the token]
        move ! (3 ∷ 1 ∷ []) $ join ! $ join ! $ nothing ! $ move ! (1 ∷ 0 ∷ []) $ join ! $ use1 𝓛 (raw ((Of 𝓛 at_mem run).pre y)) (id⊢ 𝓤 ((Of 𝓛 at_mem run).pre y)) $
        calls_at ! fm (Of 𝓛 at_mem run) known y (and_then ! (get ! refl) (and_then ! (get ! refl) (and_then ! (get ! refl) (and_then ! (get ! refl) (and_then ! (get ! refl) (no_more !)))))) (λ v.
        use1 𝓛 (later (some (λ (r : ℤ). ((‵ (flft κ q) ⊛ raw Alive) ⊛ ‵ (i32.own_val r (v ∷ []))) ⊛ raw (ensured 𝓛 of.ended (of.clauses 𝓛 at_mem run) (κ, κs) (s, (of_user, (s₁, (s₂, (s₃, tt))))) tt r)))) (id⊢ 𝓤 _) $ await ! tt $ pick ! (λ r.
        split ! $ move ! (1 ∷ []) $ use1 𝓛 (raw (fact 𝓤 (Decided x of_user s₁.now s₂.now s₃.now r))) (ex_e 𝓤 _ (λ ws. snd∗ 𝓤 (sem 𝓛 (lasts of.ended (κ, κs) (s, (of_user, (s₁, (s₂, (s₃, tt))))) ws)) (fact 𝓤 (Decided x of_user s₁.now s₂.now s₃.now r)))) $
        heard ! (Decided x of_user s₁.now s₂.now s₃.now r) (λ e. split ! $ split ! $ move ! (2 ∷ []) $
        peeks ! i32 (Is i32) (shows 𝓛 i32) r (v ∷ []) (λ is. lands_as ! refl refl ((sint_Lawful 𝓛 w32).typed r _ is).0 $
        returns ! (look_at ! 0 refl) $ free_all ! refl $
        -- [the number; the token; the tokens; the office, lent]
        move ! (1 ∷ 3 ∷ []) $ fjoin ! $ by ! (exits r v e))))))

  -- nothing is lent at null
  at_each : (p : Ptr) → length s₁.now < 2 ^ 64 → length s₂.now < 2 ^ 64 → length s₃.now < 2 ^ 64 → ent 𝓤 (sep 𝓤 (Entry p) (sem 𝓛 (reads R p κ q x))) (Runs p)
  at_each (block_ptr b o) f₁ f₂ f₃ = qed 𝓛 (raw (Entry (block_ptr b o)) ∷ ‵ (reads R (block_ptr b o) κ q x) ∷ []) ∵ move ! (1 ∷ 0 ∷ []) $ by ! (walk b o f₁ f₂ f₃)
  at_each null_ptr f₁ f₂ f₃ = via 𝓤 (never 𝓤) (via 𝓤 _ (snd∗ 𝓤 (Entry null_ptr) _) (via 𝓤 _ (snd∗ 𝓤 (sem 𝓛 (flft κ q)) _)
      (fst∗ 𝓤 (never 𝓤) (sem 𝓛 (shared_of R x (block_of null_ptr) (count_of null_ptr) κ))))) (never_e 𝓤 _)

meets : {M : Type 1} {𝓤 : Ura M} (𝓛 : Logic 𝓤) (at_mem : Memory → SProp 𝓤) (run : Routine → Fun 𝓤) (𝓣 : Tables 𝓤 𝓛.H)
    → Triple 𝓤 (𝓣.C #check) (Of 𝓛 at_mem run) → Meets 𝓛 f.signature (WpFn 𝓤 𝓛.H 𝓣.C 𝓣.Λ code.function) (f.spec 𝓛 at_mem run)
meets {𝓤 = 𝓤} 𝓛 at_mem run 𝓣 known =
    walk_Meets 𝓛 f.ended stayed (
      Goes-dropped 𝓛 3 (plain (λ _. RawPtr)) yes (λ κs x f. refl),
      (
        Goes-dropped 𝓛 3 (plain (λ _. bool)) yes (λ κs x f. refl),
        (
          Goes-dropped 𝓛 3 (SliceRefOf (0 ∷ []) tt (plain (λ _. u8)) (λ _. tt)) yes (λ κs x f. refl),
          (
            Goes-dropped 𝓛 3 (SliceRefOf (1 ∷ []) tt (plain (λ _. u8)) (λ _. tt)) yes (λ κs x f. refl),
            (Goes-dropped 𝓛 3 (SliceRefOf (2 ∷ []) tt (plain (λ _. u8)) (λ _. tt)) yes (λ κs x f. refl), tt),
          ),
        ),
      ),
    )
    (f.clauses 𝓛 at_mem run) (WpFn 𝓤 𝓛.H 𝓣.C 𝓣.Λ code.function) (WpFn-mono 𝓤 𝓛.H 𝓛.laws 𝓣 code.function)
    (walked 𝓛 f.ended stayed (f.clauses 𝓛 at_mem run) (WpFn 𝓤 𝓛.H 𝓣.C 𝓣.Λ code.function) (λ κs. (rawptr_vals, (bool_vals, (shr_slice_vals, (shr_slice_vals, (shr_slice_vals, tt)))))) (λ κs. (rawptr_Tells, (bool_Tells, (shr_slice_Tells (named 0) κs.0 u8, (shr_slice_Tells (named 1) κs.1.0 u8, (shr_slice_Tells (named 2) κs.1.1.0 u8, tt))))))
    (λ κs qs bounds a g are. at_each 𝓛 at_mem run 𝓣.C 𝓣.Λ (fm_of 𝓤 𝓛.H 𝓛.laws 𝓣) known g.0 g.1 g.2 κs qs a.1.0 a.1.1.0 a.1.1.1.0 a.1.1.1.1.0 a.0 are.1.1.0.0.1.0 are.1.1.1.0.0.1.0 are.1.1.1.1.0.0.1.0))

pub rbac_office_check_spec : {M : Type 1} → stated.statement M
unfolding tables_of
rbac_office_check_spec 𝓤 𝓛 𝓜 𝓡 wired =
    entered 𝓤 𝓛.H (triple_of 𝓛 f.signature (f.spec 𝓛 𝓜.mem 𝓡.returns))
    (tables 𝓤 𝓛.H 𝓜 𝓡 𝓡.env).C (tables 𝓤 𝓛.H 𝓜 𝓡 𝓡.env).Λ key code.function (code.unfolded 𝓤 𝓛.H 𝓜 𝓡 wired)
    (meets 𝓛 𝓜.mem 𝓡.returns (tables_of 𝓤 𝓛.H 𝓜 (tables 𝓤 𝓛.H 𝓜 𝓡 𝓡.env))
    (of_thm.met 𝓤 𝓛 𝓜 𝓡 (code.calls-rbac_c::calls::check 𝓡.env wired)))
