-- An office after the work of a subcommand.
use Rattle.std.proofs.Common.{inl, inr, ℕ, List, Option, Result, Ok, Err}
use Rattle.std.specs.Prelude.{OnOk, IfErr}
use Rattle.sqlite.specs.Held.{Held}
use Rattle.sqlite.specs.State.{State}
use Rattle.rbac_sets.specs.CommandContent.{Import}
use Rattle.rbac_sets.specs.Sets.{Pair}
use Rattle.rbac_sets.specs.declared.refusal.Refusal.{Refusal}
use Rattle.role_json.specs.RequestContent.{Change}
use Rattle.role_tables.specs.Office.{OfficeModel}
use Rattle.role_wire.specs.Continuation.{Continues}
use Rattle.role_wire.specs.OfficeRequest.{RefusesRequest, DoesRequest}
use Rattle.role_cli.specs.ServedConnections.{AllServed, Clients, EndsBy}
use Rattle.role_cli.specs.Work.{FailsToImport, FailsToServe, Imports, ServesAll}
use Rattle.role_cli.specs.declared.failure.Failure.{Failure}
use Rattle.role_cli.proofs.Served.{breaks_continues, reaches_continues, same_continues, server_continues}

module _ {S : Type 0} (shown : Held S → State) where
  performs_continues : (old new : OfficeModel S) (pairs : List Pair) (line : List ℕ) → DoesRequest shown old (Change (Import pairs)) line new → Continues shown old new
  performs_continues old new pairs line performs = reaches_continues shown old new _ _ performs.reaches

  declines_continues : (old new : OfficeModel S) (pairs : List Pair) (refusal : Refusal) → RefusesRequest shown old (Change (Import pairs)) refusal new → Continues shown old new
  declines_continues old new pairs refusal (inl (_, same, _)) = same_continues shown old new same
  declines_continues old new pairs refusal (inr (inl (_, at))) = breaks_continues shown old new _ _ _ at.breaks
  declines_continues old new pairs refusal (inr (inr (inl (_, _, same)))) = same_continues shown old new same
  declines_continues old new pairs refusal (inr (inr (inr (_, _, same, _)))) = same_continues shown old new same

  failed_import_continues : (file : Option (List ℕ)) (old new : OfficeModel S) (failure : Failure) (write_failed csv_failed : Type 0) (written now_written : Option (List ℕ))
      → FailsToImport shown file old failure write_failed csv_failed written now_written new → Continues shown old new
  failed_import_continues file old new failure write_failed csv_failed written now_written (inl (_, same, _)) = same_continues shown old new same
  failed_import_continues file old new failure write_failed csv_failed written now_written (inr (text, pairs, refusal, _, _, _, inl (declines, _))) = declines_continues old new pairs refusal declines
  failed_import_continues file old new failure write_failed csv_failed written now_written (inr (text, pairs, refusal, _, _, _, inr (inl (_, _, (line, performs))))) = performs_continues old new pairs line performs
  failed_import_continues file old new failure write_failed csv_failed written now_written (inr (text, pairs, refusal, _, _, _, inr (inr (_, _, (line, performs, _))))) = performs_continues old new pairs line performs

  pub import_continues : (file : Option (List ℕ)) (old new : OfficeModel S) (write_failed csv_failed : Type 0) (written now_written : Option (List ℕ)) (result : Result (Unit {0}) Failure)
      → OnOk result (Imports shown file old written now_written new) → IfErr result (λ failure. FailsToImport shown file old failure write_failed csv_failed written now_written new) → Continues shown old new
  import_continues file old new write_failed csv_failed written now_written (Ok done) (text, pairs, line, _, _, performs, _) failed = performs_continues old new pairs line performs
  import_continues file old new write_failed csv_failed written now_written (Err failure) done failed = failed_import_continues file old new failure write_failed csv_failed written now_written failed

  pub serve_continues : (limit port : ℕ) (clients now_clients : Clients) (old new : OfficeModel S) (fault : Type 0) (written now_written : Option (List ℕ)) (result : Result (Unit {0}) Failure)
      → OnOk result (ServesAll shown port limit clients now_clients old written now_written new)
      → IfErr result (λ failure. FailsToServe shown port limit clients now_clients old failure fault written now_written new)
      → Continues shown old new
  serve_continues limit port clients now_clients old new fault written now_written (Ok done) (ready, _, _, serves) failed = server_continues shown (AllServed limit) ready now_clients old new serves
  serve_continues limit port clients now_clients old new fault written now_written (Err failure) done (inl (_, _, same, _)) = same_continues shown old new same
  serve_continues limit port clients now_clients old new fault written now_written (Err failure) done (inr (ready, _, inl (_, _, same, _))) = same_continues shown old new same
  serve_continues limit port clients now_clients old new fault written now_written (Err failure) done (inr (ready, _, inr (inl (_, _, _, same, _)))) = same_continues shown old new same
  serve_continues limit port clients now_clients old new fault written now_written (Err failure) done (inr (ready, _, inr (inr (_, serves)))) = server_continues shown (EndsBy limit failure) ready now_clients old new serves
