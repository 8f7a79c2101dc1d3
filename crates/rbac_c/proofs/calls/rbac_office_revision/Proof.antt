-- The office is read through a `&` to its place, for which the caller lends it.
use Rattle.std.proofs.Common.{◌≡◌, ℕ, List, [], ◌∷◌, ◌++◌, refl, Bor, w64}
use seplogic.Ra.Ura.{Ura}
use mir.Val.{Val, vptr}
use base.Logic.{SProp, ent, sep, via, fst∗, snd∗, never, never_e, id⊢, ex_e}
use base.Fml.{Lft, Share, ftrue, flft}
use prog.Memory.{Memory}
use prog.Routine.{Routine}
use prog.Wp.{Calls, Loops, WpFn, Tables}
use types.Logic.{Logic, sem}
use contract.Monad.{Fun, fact}
use contract.Running.{tables, tables_of}
use types.Kit.{‵, raw, ◌⊛◌, some, later, ◌$◌, ◌∵◌, !, qed, by, move, drop, use1, split, join, pick, fsplit, fjoin, feq_i, suffices, frame, await, done}
use types.Run.{stop, of_opd, addr, no_more, and_then, returns, enter}
use types.ByLocal.{alloc_all, pass_all, free_all, look_at, get, through, sets, lands_as}
use sound.WpLaws.{FmC, fm_of, WpFn-mono}
use denote.Exit.{yes}
use denote.RattleType.{RattleType, owns}
use denote.Laws.{Is, shows}
use denote.Opens.{hide}
use denote.Plain.{uint_Lawful}
use denote.Builtin.{u64}
use denote.Memory.{shared_of}
use denote.RawPtr.{Ptr, block_ptr, null_ptr, block_of, count_of, RawPtr, rawptr_vals, rawptr_Tells}
use denote.SharingLaws.{contraction}
use denote.Steps.{peeks, heard, nothing}
use denote.Struct.Lending.{lent_at, lent_at_shr_laws}
use denote.Triple.Statement.{Contract, Triple}
use denote.Triple.Call.{calls_at}
use denote.Triple.Clauses.{ensured, lasts}
use denote.Triple.Entry.{on_entry}
use denote.Triple.Spec.{Meets, triple_of}
use denote.Triple.Table.{entered}
use denote.Triple.Walked.{says, Stays, stay_none, walk_of, Goes-none, ends_at, walked, walk_Meets}
use Rattle.role_lines.specs.contracts.office.MemoryOffice as office
use Rattle.role_lines.proofs.office.MemoryOffice.TheLaws as office_laws
use Rattle.rbac_c.specs.Held.{reads}
use Rattle.rbac_c.specs.contracts.calls.revision as of
use Rattle.rbac_c.proofs.calls.revision.Symbol.{name as #revision}
use Rattle.rbac_c.proofs.calls.revision.Met as of_thm
use Rattle.rbac_c.specs.contracts.calls.rbac_office_revision as f
use Rattle.rbac_c.specs.contracts.calls.rbac_office_revision.Key.{name as key}
use Rattle.rbac_c.proofs.calls.rbac_office_revision.Statement as stated
use Rattle.rbac_c.proofs.calls.rbac_office_revision.Code as code

abbrev R : RattleType
R = office.the_row

abbrev stayed : Stays (f.ended).signature.params (f.ended).kept
stayed = (stay_none (λ _. RawPtr) yes, tt)

module _ {M : Type 1} {𝓤 : Ura M} (𝓛 : Logic 𝓤) (at_mem : Memory → SProp 𝓤) (run : Routine → Fun 𝓤) where
  abbrev Of : Contract 𝓤
  Of = triple_of 𝓛 of.signature (of.spec 𝓛 at_mem run)

module _ {M : Type 1} {𝓤 : Ura M} (𝓛 : Logic 𝓤) (at_mem : Memory → SProp 𝓤) (run : Routine → Fun 𝓤) (C : Calls 𝓤 𝓛.H) (Λ : Loops 𝓤 𝓛.H) (fm : FmC 𝓤 𝓛.H 𝓛.laws C)
    (known : Triple 𝓤 (C #revision) (Of 𝓛 at_mem run)) (κ : Lft) (q : Share) (x : R.Denot) where
  open 𝓛 use {H}

  abbrev Entry : Ptr → SProp 𝓤
  Entry p = on_entry 𝓛 f.signature tt tt (p, tt) (rawptr_vals p, tt)

  abbrev bound : Ptr → (walk_of 𝓛 f.ended stayed (f.clauses 𝓛 at_mem run)).Ghost
  bound p = ((tt, tt, tt, (p, tt), (rawptr_vals p, tt)), (κ, q, x))

  abbrev Runs : Ptr → SProp 𝓤
  Runs p = WpFn 𝓤 H C Λ code.function (rawptr_vals p ++ []) ((walk_of 𝓛 f.ended stayed (f.clauses 𝓛 at_mem run)).post (bound p))

  module _ (b o : ℕ) where
    abbrev p : Ptr
    p = block_ptr b o

    exits : (r : ℕ) (v : Val) → r ≡ x.revision → ent 𝓤 (sep 𝓤 (sem 𝓛 (reads R p κ q x)) (sep 𝓤 (sem 𝓛 (u64.own_val r (v ∷ []))) (Entry p)))
        ((walk_of 𝓛 f.ended stayed (f.clauses 𝓛 at_mem run)).post (bound p) v)
    exits r v e =
        qed 𝓛 (‵ (reads R p κ q x) ∷ ‵ (u64.own_val r (v ∷ [])) ∷ (‵ ftrue ⊛ ‵ (owns (RawPtr ∷ []) (p, tt) (rawptr_vals p, tt))) ∷ []) ∵
        suffices ! _ (ends_at 𝓛 f.ended stayed (f.clauses 𝓛 at_mem run) (bound p) v r (tt, tt) (tt, tt)) $
        move ! (2 ∷ []) $ split ! $ move ! (1 ∷ 3 ∷ []) $ join ! $ move ! (1 ∷ 0 ∷ []) $ join ! $ frame ! $ says ! e $ done !

    walk : ent 𝓤 (sep 𝓤 (sem 𝓛 (reads R p κ q x)) (Entry p)) (Runs p)
    walk =
        let s : Bor R.Denot = record { ref_ptr = (b, o); now = x } in
        let y : (Of 𝓛 at_mem run).Ghost = (((κ, tt), (q, tt), tt, (s, tt), (vptr b o ∷ [], tt)), tt) in
        qed 𝓛 (‵ (reads R p κ q x) ∷ raw (Entry p) ∷ []) ∵ enter ! C Λ code.function (vptr b o ∷ []) _ $
        alloc_all ! (λ l. pass_all ! refl ((tt, tt), tt) $
        sets ! (of_opd ! (get ! refl)) refl (tt, tt) $
        -- [the token; the office, lent; what the parameter owns; the locals]
        fsplit ! $ move ! (1 ∷ []) $ use1 𝓛 (‵ (lent_at R p x κ) ⊛ ‵ (lent_at R p x κ)) (contraction 𝓛 (lent_at R p x) (lent_at_shr_laws R office_laws.the_row_laws.shr_laws p x) κ) $ split ! $
        fsplit ! $ drop ! $ hide ! $ feq_i ! (List Val) (vptr b o ∷ []) (vptr b o ∷ []) refl $ fjoin ! $
        sets ! (addr ! (through ! refl (stop !))) refl (tt, tt) $
        nothing ! $ move ! (1 ∷ 0 ∷ []) $ fjoin ! $
        nothing ! $ move ! (3 ∷ 0 ∷ []) $ join ! $ join ! $ nothing ! $ move ! (1 ∷ 0 ∷ []) $ join ! $ use1 𝓛 (raw ((Of 𝓛 at_mem run).pre y)) (id⊢ 𝓤 ((Of 𝓛 at_mem run).pre y)) $
        calls_at ! fm (Of 𝓛 at_mem run) known y (and_then ! (get ! refl) (no_more !)) (λ v.
        use1 𝓛 (later (some (λ (r : ℕ). ((‵ (flft κ q) ⊛ ‵ ftrue) ⊛ ‵ (u64.own_val r (v ∷ []))) ⊛ raw (ensured 𝓛 of.ended (of.clauses 𝓛 at_mem run) (κ, tt) (s, tt) tt r)))) (id⊢ 𝓤 _) $ await ! tt $ pick ! (λ r.
        split ! $ move ! (1 ∷ []) $ use1 𝓛 (raw (fact 𝓤 (r ≡ x.revision))) (ex_e 𝓤 _ (λ ws. snd∗ 𝓤 (sem 𝓛 (lasts of.ended (κ, tt) (s, tt) ws)) (fact 𝓤 (r ≡ x.revision)))) $
        heard ! (r ≡ x.revision) (λ e. split ! $ split ! $ move ! (2 ∷ []) $
        peeks ! u64 (Is u64) (shows 𝓛 u64) r (v ∷ []) (λ is. lands_as ! refl refl ((uint_Lawful 𝓛 w64).typed r _ is).0 $
        returns ! (look_at ! 0 refl) $ free_all ! refl $
        -- [the number; the token; nothing; the office, lent; what the parameter owns]
        move ! (1 ∷ 3 ∷ []) $ fjoin ! $ move ! (2 ∷ []) $ drop ! $ by ! (exits r v e))))))

  -- nothing is lent at null
  at_each : (p : Ptr) → ent 𝓤 (sep 𝓤 (Entry p) (sem 𝓛 (reads R p κ q x))) (Runs p)
  at_each (block_ptr b o) = qed 𝓛 (raw (Entry (block_ptr b o)) ∷ ‵ (reads R (block_ptr b o) κ q x) ∷ []) ∵ move ! (1 ∷ 0 ∷ []) $ by ! (walk b o)
  at_each null_ptr = via 𝓤 (never 𝓤) (via 𝓤 _ (snd∗ 𝓤 (Entry null_ptr) _) (via 𝓤 _ (snd∗ 𝓤 (sem 𝓛 (flft κ q)) _)
      (fst∗ 𝓤 (never 𝓤) (sem 𝓛 (shared_of R x (block_of null_ptr) (count_of null_ptr) κ))))) (never_e 𝓤 _)

meets : {M : Type 1} {𝓤 : Ura M} (𝓛 : Logic 𝓤) (at_mem : Memory → SProp 𝓤) (run : Routine → Fun 𝓤) (𝓣 : Tables 𝓤 𝓛.H)
    → Triple 𝓤 (𝓣.C #revision) (Of 𝓛 at_mem run) → Meets 𝓛 f.signature (WpFn 𝓤 𝓛.H 𝓣.C 𝓣.Λ code.function) (f.spec 𝓛 at_mem run)
meets {𝓤 = 𝓤} 𝓛 at_mem run 𝓣 known =
    walk_Meets 𝓛 f.ended stayed (Goes-none 𝓛 0 (λ _. RawPtr) yes (λ κs a g. refl), tt)
    (f.clauses 𝓛 at_mem run) (WpFn 𝓤 𝓛.H 𝓣.C 𝓣.Λ code.function) (WpFn-mono 𝓤 𝓛.H 𝓛.laws 𝓣 code.function)
    (walked 𝓛 f.ended stayed (f.clauses 𝓛 at_mem run) (WpFn 𝓤 𝓛.H 𝓣.C 𝓣.Λ code.function) (λ κs. (rawptr_vals, tt)) (λ κs. (rawptr_Tells, tt))
    (λ κs qs bounds a g are. at_each 𝓛 at_mem run 𝓣.C 𝓣.Λ (fm_of 𝓤 𝓛.H 𝓛.laws 𝓣) known g.0 g.1 g.2 a.0))

pub rbac_office_revision_spec : {M : Type 1} → stated.statement M
unfolding tables_of
rbac_office_revision_spec 𝓤 𝓛 𝓜 𝓡 wired =
    entered 𝓤 𝓛.H (triple_of 𝓛 f.signature (f.spec 𝓛 𝓜.mem 𝓡.returns))
    (tables 𝓤 𝓛.H 𝓜 𝓡 𝓡.env).C (tables 𝓤 𝓛.H 𝓜 𝓡 𝓡.env).Λ key code.function (code.unfolded 𝓤 𝓛.H 𝓜 𝓡 wired)
    (meets 𝓛 𝓜.mem 𝓡.returns (tables_of 𝓤 𝓛.H 𝓜 (tables 𝓤 𝓛.H 𝓜 𝓡 𝓡.env))
    (of_thm.met 𝓤 𝓛 𝓜 𝓡 (code.calls-rbac_c::calls::revision 𝓡.env wired)))
