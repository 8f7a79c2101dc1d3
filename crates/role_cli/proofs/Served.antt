-- Connections one after another.
use Rattle.std.proofs.Common.{◌≡◌, ◌+◌, ◌-◌, ◌^◌, ◌<◌, ℕ, arith, inl, inr, Bool, false, true, List, [], ◌∷◌, ◌++◌, Option, Some, None, refl, sym, ap, subst, ◌∙◌}
use Rattle.std.specs.Prelude.{⊤, ◌||◌, if◌then◌else◌, map, min, nat_lt, option_map, ◌≤◌}
use Rattle.std.proofs.lemmas.List.{map-append}
use Rattle.std.specs.List.{list_any}
use Rattle.std.proofs.lemmas.Bool.{cases_Bool, eqb-true, lt-ltb, ltb-false, ltb-true, true≢false}
use Rattle.std.proofs.lemmas.List.Folds.{list_any-append}
use Rattle.sqlite.specs.Held.{Held}
use Rattle.sqlite.specs.State.{State}
use Rattle.admin_mgr.specs.OfficeRun.{Event}
use Rattle.admin_mgr.specs.RbacState.{RbacState}
use Rattle.rbac_sets.specs.Stream.{HasRisen, failed_in_memory, left_in_memory, one_more, written_in_memory}
use Rattle.rbac_sets.specs.declared.sink.MemorySink.{MemorySink}
use Rattle.rbac_sets.specs.declared.source.MemorySource.{MemorySource}
use Rattle.role_json.specs.RequestContent.{RequestContent}
use Rattle.role_tables.specs.Office.{OfficeModel}
use Rattle.role_wire.specs.Continuation.{StoreFails, Continues, ReachesState}
use Rattle.role_wire.specs.Reply.{Asks}
use Rattle.role_wire.specs.ServedRequest.{LeavesUnanswered, StopsAt, AnswersBytes}
use Rattle.role_wire.specs.declared.lines.Cause.{Cause}
use Rattle.role_wire.specs.declared.lines.Cause.TheVariants as cause
use Rattle.role_wire.proofs.Performed.{same_run}
use Rattle.role_wire.proofs.Replayed.{runs_then}
use Rattle.role_cli.specs.Environment.{HasFailed}
use Rattle.role_cli.specs.Hosts.{clients_in_memory, known_clients, sent_in_memory}
use Rattle.role_cli.specs.ServedConnections.{AreServed, Clients, IsNextServed, IsServed, IsServedOver, SentReply, ServedAreAccepted, ServesConnections, TakesNext, bytes_of, is_closing}
use Rattle.role_cli.specs.declared.memory_host.MemoryHost.{MemoryHost}
use Rattle.role_cli.specs.private.SomeConnection.{IsServedSomehow}

-- a connection that closes the office was answered with status 500
pub closing : (status : Option ℕ) → is_closing status ≡ true → status ≡ Some 500
closing (Some status) is = ap Some (eqb-true status 500 is)
closing None is = absurd (true≢false (sym is))

one_more_below : (n : ℕ) → n < 2 ^ 64 - 1 → one_more n ≡ n + 1
one_more_below n small = ap (λ b. if b then n + 1 else n) (lt-ltb n (2 ^ 64 - 1) small)

-- a count of 64 bits that saturates
pub saturated : (n : ℕ) → n ≤ 2 ^ 64 - 1 → min (n + 1) (2 ^ 64 - 1) ≡ one_more n
saturated n small = elim (cases_Bool (nat_lt n (2 ^ 64 - 1))) [
  | inl below ↦ rw below (omega (arith, ltb-true n (2 ^ 64 - 1) below))
  | inr most ↦ rw most (omega (arith, small, ltb-false n (2 ^ 64 - 1) most))
]

-- no count rises from 0 to 0
no_rise : HasRisen 0 0 → ⊥
no_rise (inl more) = omega (arith, more)
no_rise (inr full) = omega (arith, full)

-- a sink without idle writes has failed only if one of its writes has
some_failed : (n : ℕ) → HasFailed 0 n 0 0 → 1 ≤ n
some_failed n (inl (inl more)) = omega (arith, more)
some_failed n (inl (inr full)) = omega (arith, full)
some_failed n (inr risen) = absurd (no_rise risen)

or_none : (b : Bool) → (b || false) ≡ b
or_none true = refl
or_none false = refl

module _ {S : Type 0} (shown : Held S → State) where
  -- ---- one more connection

  pub served_then : (before between now : Clients) (old mid new : OfficeModel S) (statuses : List (Option ℕ)) (status : Option ℕ)
      → AreServed shown before between old statuses mid → IsNextServed shown between now mid status new → AreServed shown before now old (statuses ++ status ∷ []) new
  served_then before between now old mid new [] status (is, same) next = (
    now,
    new,
    subst (λ c. IsNextServed shown c now old status new) is (subst (λ o. IsNextServed shown between now o status new) same next),
    (refl, refl),
  )
  served_then before between now old mid new (first ∷ rest) status (after, next_office, served, later) next =
      (after, next_office, served, served_then after between now next_office mid new rest status later next)

  pub served_are_accepted : ServedAreAccepted shown
  served_are_accepted before now old new [] (is, same) small =
      let none : before.accepted ≡ before.accepted + 0 = omega arith in
      ap (λ (c : Clients). c.accepted) is ∙ none
  served_are_accepted before now old new (status ∷ rest) (between, next, served, later) small =
      let up : between.accepted ≡ before.accepted + 1 = served.counted ∙ one_more_below before.accepted (omega (arith, small)) in
      let more = served_are_accepted between now next new rest later (omega (arith, small, up)) in
      omega (arith, more, up)

  pub served_same : (before now : Clients) (old mid new : OfficeModel S) (statuses : List (Option ℕ))
      → AreServed shown before now old statuses mid → new ≡ mid → AreServed shown before now old statuses new
  served_same before now old mid new statuses served same = subst (λ o. AreServed shown before now old statuses o) (sym same) served

  -- a client of a port, of whom nothing is known
  stopped_somehow : (why : Cause) (old new : OfficeModel S) (bytes : List ℕ) (written now_written : Option (List ℕ)) → StopsAt shown why old bytes new written now_written → StopsAt shown why old bytes new None None
  stopped_somehow cause.Write old new bytes written now_written (status, body, tells, (part, rest, is, some, _)) = (status, body, tells, (part, rest, is, some, tt))
  stopped_somehow cause.Read old new bytes written now_written (no_answer, _) = (no_answer, tt)
  stopped_somehow cause.Memory old new bytes written now_written (no_answer, _) = (no_answer, tt)
  stopped_somehow (cause.Line n) old new bytes written now_written (no_answer, _) = (no_answer, tt)
  stopped_somehow cause.Store old new bytes written now_written (no_answer, _) = (no_answer, tt)
  stopped_somehow cause.Closed old new bytes written now_written (no_answer, _) = (no_answer, tt)

  pub next_of_port : (port : Option ℕ) (accepted now_accepted failed : ℕ) (old new : OfficeModel S) (status : Option ℕ) → now_accepted ≡ one_more accepted
      → IsServedSomehow shown old status new → IsNextServed shown (known_clients port accepted failed) (known_clients port now_accepted failed) old status new
  next_of_port port accepted now_accepted failed old new status counts somehow = of status somehow
    where
      before : Clients
      before = known_clients port accepted failed

      now : Clients
      now = known_clients port now_accepted failed

      made : (sent left : Option (List ℕ)) (status : Option ℕ) → IsServed shown (before.waiting ≡ None) sent left None old status new → IsNextServed shown before now old status new
      made sent left status served = record {
        sent = sent;
        left = left;
        reply = None;
        port = refl;
        counted = counts;
        none_failed = refl;
        takes = refl;
        adds = refl;
        served = served;
      }

      of : (status : Option ℕ) → IsServedSomehow shown old status new → IsNextServed shown before now old status new
      of (Some status) (left, now_left, written, now_written, (taken, consumes, no_further, (body, tells, text))) = made left now_left (Some status) (taken, consumes, no_further, (body, tells, tt))
      of None (why, left, now_left, written, now_written, (taken, consumes, no_further, stops)) =
          made left now_left None (why, (taken, consumes, no_further, stopped_somehow why old new _ written now_written stops), (λ _. refl), (λ _. tt))

  -- one that did not close the office
  pub open_then : (statuses : List (Option ℕ)) (status : Option ℕ) → list_any is_closing statuses ≡ false → is_closing status ≡ false → list_any is_closing (statuses ++ status ∷ []) ≡ false
  open_then statuses status open_before open_now =
      list_any-append is_closing statuses (status ∷ []) ∙ ap (λ b. b || (is_closing status || false)) open_before ∙ or_none (is_closing status) ∙ open_now

  -- no read of a client in memory fails
  served_in_memory : (Other : Type 0) (sent left written : Option (List ℕ)) (filled : SentReply) (old new : OfficeModel S) (status : Option ℕ)
      → IsServedOver shown (HasRisen 0 0) (HasFailed 0 filled.failed_writes 0 0) sent left written (Some filled.bytes) old status new
      → IsServedOver shown Other (1 ≤ filled.failed_writes) sent left written (Some filled.bytes) old status new
  served_in_memory Other sent left written filled old new (Some status) served = served
  served_in_memory Other sent left written filled old new None (why, stops, read, wrote) = (why, stops, (λ is. absurd (no_rise (read is))), (λ is. some_failed filled.failed_writes (wrote is)))

  -- a client in memory, of whom all is known
  pub next_in_memory : (before now : MemoryHost) (source left : MemorySource) (empty filled : MemorySink) (old new : OfficeModel S) (status : Option ℕ)
      → now.port ≡ before.port → now.accepted ≡ one_more before.accepted → now.failed ≡ before.failed
      → before.waiting.items ≡ source ∷ now.waiting.items → now.replies.items ≡ before.replies.items ++ filled ∷ [] → sent_in_memory empty ≡ record { bytes = []; failed_writes = 0 }
      → IsServedOver shown (HasRisen 0 0) (HasFailed (failed_in_memory empty) (failed_in_memory filled) 0 0) (Some (left_in_memory source)) (Some (left_in_memory left))
      (Some (written_in_memory empty)) (Some (written_in_memory filled)) old status new
      → IsNextServed shown (clients_in_memory before) (clients_in_memory now) old status new
  next_in_memory before now source left empty filled old new status port counted none_failed takes adds none served = record {
    sent = Some (left_in_memory source);
    left = Some (left_in_memory left);
    reply = Some (sent_in_memory filled);
    port = port;
    counted = counted;
    none_failed = none_failed;
    takes = subst (λ sources. TakesNext (Some (map left_in_memory sources)) (Some (left_in_memory source)) (Some (map left_in_memory now.waiting.items))) (sym takes) (refl, refl);
    adds = (sent_in_memory filled, refl, ap Some (ap (map sent_in_memory) adds ∙ map-append sent_in_memory before.replies.items (filled ∷ [])));
    served = served_in_memory ((clients_in_memory before).waiting ≡ None) (Some (left_in_memory source)) (Some (left_in_memory left)) (Some []) (sent_in_memory filled) old new status
        (subst (λ (it : SentReply). IsServedOver shown (HasRisen 0 0) (HasFailed it.failed_writes (failed_in_memory filled) 0 0) (Some (left_in_memory source)) (Some (left_in_memory left))
        (Some it.bytes) (Some (written_in_memory filled)) old status new) none served);
  }

  -- ---- the run continues

  pub same_continues : (old new : OfficeModel S) → new ≡ old → Continues shown old new
  same_continues old new same = subst (Continues shown old) (sym same) (record { clean = λ clean. clean; runs = same_run shown old (λ _. ⊤) tt })

  pub reaches_continues : (old new : OfficeModel S) (Added : List Event → Type 0) (T : RbacState) → ReachesState shown old Added T new → Continues shown old new
  reaches_continues old new Added T reaches = record { clean = reaches.keeps.clean; runs = (reaches.keeps.runs.0, tt, reaches.keeps.runs.2) }

  pub breaks_continues : (old new : OfficeModel S) (Added : List Event → Type 0) (from to : RbacState) → StoreFails shown old Added from to new → Continues shown old new
  breaks_continues old new Added from to breaks = record { clean = breaks.clean; runs = (breaks.runs.0, tt, breaks.runs.2) }

  continues_then : (a b c : OfficeModel S) → Continues shown a b → Continues shown b c → Continues shown a c
  continues_then a b c first later = record { clean = λ clean. first.clean (later.clean clean); runs = runs_then shown a b c (λ _. ⊤) (λ _. ⊤) (λ _. ⊤) (λ _ _ _ _. tt) first.runs later.runs }

  tells_continues : (old new : OfficeModel S) (bytes : List ℕ) (status : ℕ) (body : List ℕ) → AnswersBytes shown old bytes status body new → Continues shown old new
  tells_continues old new bytes status body (inl (reply, replies, (_, _, reaches)), closed) = reaches_continues old new _ reply.after reaches
  tells_continues old new bytes status body (inr (inl (_, _, reaches)), closed) = reaches_continues old new _ old.facts reaches
  tells_continues old new bytes status body (inr (inr (inl (_, _, (asked, asks, at)))), closed) = breaks_continues old new _ _ _ at.breaks
  tells_continues old new bytes status body (inr (inr (inr (_, _, shut, same, asked))), closed) = same_continues old new same

  unanswered_continues : (why : Cause) (old new : OfficeModel S) (AsksFor : RequestContent → Type 0) → LeavesUnanswered shown why old AsksFor new → Continues shown old new
  unanswered_continues cause.Read old new AsksFor same = same_continues old new same
  unanswered_continues cause.Memory old new AsksFor (asked, asks, works, accepted, reaches) = reaches_continues old new _ _ reaches
  unanswered_continues cause.Write old new AsksFor none = absurd none
  unanswered_continues (cause.Line n) old new AsksFor none = absurd none
  unanswered_continues cause.Store old new AsksFor none = absurd none
  unanswered_continues cause.Closed old new AsksFor none = absurd none

  stop_continues : (why : Cause) (old new : OfficeModel S) (bytes : List ℕ) (written now_written : Option (List ℕ)) → StopsAt shown why old bytes new written now_written → Continues shown old new
  stop_continues cause.Write old new bytes written now_written (status, body, tells, part) = tells_continues old new bytes status body tells
  stop_continues cause.Read old new bytes written now_written (no_answer, none) = unanswered_continues cause.Read old new (Asks bytes) no_answer
  stop_continues cause.Memory old new bytes written now_written (no_answer, none) = unanswered_continues cause.Memory old new (Asks bytes) no_answer
  stop_continues (cause.Line n) old new bytes written now_written (no_answer, none) = absurd no_answer
  stop_continues cause.Store old new bytes written now_written (no_answer, none) = absurd no_answer
  stop_continues cause.Closed old new bytes written now_written (no_answer, none) = absurd no_answer

  served_continues : (may_fail : Type 0) (sent left : Option (List ℕ)) (reply : Option SentReply) (old new : OfficeModel S) (status : Option ℕ) → IsServed shown may_fail sent left reply old status new → Continues shown old new
  served_continues may_fail sent left reply old new (Some status) (taken, consumes, no_further, (body, tells, text)) = tells_continues old new _ status body tells
  served_continues may_fail sent left reply old new None (why, (taken, consumes, no_further, stops), _, _) = stop_continues why old new _ (option_map (λ (_ : SentReply). []) reply) (bytes_of reply) stops

  all_continue : (before now : Clients) (old new : OfficeModel S) (statuses : List (Option ℕ)) → AreServed shown before now old statuses new → Continues shown old new
  all_continue before now old new [] (_, same) = same_continues old new same
  all_continue before now old new (status ∷ rest) (between, next, served, later) =
      continues_then old next new (served_continues (before.waiting ≡ None) served.sent served.left served.reply old next status served.served) (all_continue between now next new rest later)

  pub server_continues : (Ends : List (Option ℕ) → Clients → Clients → Type 0) (before now : Clients) (old new : OfficeModel S) → ServesConnections shown Ends before now old new → Continues shown old new
  server_continues Ends before now old new (statuses, last, served, _) = all_continue before last old new statuses served
