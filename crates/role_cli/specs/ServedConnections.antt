-- What a server leaves of an office, one connection after another.
use Rattle.std.specs.Prelude.{◌≡◌, ◌<◌, ◌≤◌, ◌+◌, ◌^◌, ◌++◌, ◌==◌, ℕ, Bool, false, List, [], ◌∷◌, Option, Some, None, IfSome, length, option_map}
use Rattle.std.specs.List.{list_any}
use Rattle.sqlite.specs.Held.{Held}
use Rattle.sqlite.specs.State.{State}
use Rattle.rbac_sets.specs.Stream.{HasRisen, one_more}
use Rattle.rbac_sets.specs.declared.refusal.Refusal.TheVariants.{Memory}
use Rattle.role_tables.specs.Office.{OfficeModel}
use Rattle.role_wire.specs.ServedRequest.{ServesRequest, StopsRequest}
use Rattle.role_wire.specs.declared.lines.Cause.{Cause}
use Rattle.role_wire.specs.declared.serving.Answered.{Answered}
use Rattle.role_wire.specs.declared.lines.Cause.TheVariants.{Read, Write}
use Rattle.role_cli.specs.declared.failure.Failure.{Failure}
use Rattle.role_cli.specs.declared.failure.Failure.TheVariants.{Refused, NotAccepting, Closed}

-- the bytes of a stream, if they are known
abbrev pub Known : Type 0
Known = Option (List ℕ)

-- the status of what was answered, if anything was
abbrev pub status_in : Option Answered → Option ℕ
status_in answered = option_map (λ (it : Answered). it.status) answered

-- the status after which the office is closed
abbrev pub is_closing : Option ℕ → Bool
is_closing (Some status) = status == 500
is_closing None = false

-- what a client was sent: the bytes, and how many writes on its connection failed (the count saturates)
pub record SentReply : Type 0 where
  pub bytes : List ℕ
  pub failed_writes : ℕ

-- What is known of the clients of a server: the port on which they are listened for, if that is known; how many connections were
-- accepted, and how often listening or accepting failed (the counts saturate); the bytes that each client to come sends, in order,
-- and what each client was sent so far.
pub record Clients : Type 0 where
  pub listening : Option ℕ
  pub accepted : ℕ
  pub failed : ℕ
  pub waiting : Option (List (List ℕ))
  pub replies : Option (List SentReply)

-- clients are listened for on this port, and nothing else changed
abbrev pub Listens : ℕ → Clients → Clients → Type 0
Listens port before now = now ≡ record before { listening = Some port }

-- listening or accepting failed, and nothing else changed
abbrev pub CallFails : Clients → Clients → Type 0
CallFails before now = (now ≡ record before { failed = now.failed }) × HasRisen before.failed now.failed

-- as many connections as the limit were served, none of them closed the office, and that is all
abbrev pub AllServed : ℕ → List (Option ℕ) → Clients → Clients → Type 0
AllServed limit statuses last now = (length statuses ≡ limit) × (list_any is_closing statuses ≡ false) × (now ≡ last)

-- A server ended by this failure after it had served these connections: it could not be allocated before the first one, one more
-- could not be accepted, or the last one closed the office and none before it.
abbrev pub EndsBy : ℕ → Failure → List (Option ℕ) → Clients → Clients → Type 0
EndsBy limit (Refused refusal) statuses last now = (refusal ≡ Memory) × (statuses ≡ []) × (now ≡ last)
EndsBy limit NotAccepting statuses last now = (length statuses < limit) × (list_any is_closing statuses ≡ false) × CallFails last now
EndsBy limit Closed statuses last now = (length statuses ≤ limit)
    × ((before : List (Option ℕ)) × (statuses ≡ before ++ Some 500 ∷ []) × (list_any is_closing before ≡ false)) × (now ≡ last)
EndsBy limit _ statuses last now = ⊥

-- the next client, and what it sends, if that is known; none is left if all are known and were served
abbrev pub TakesNext : Option (List (List ℕ)) → Known → Option (List (List ℕ)) → Type 0
TakesNext None sent now = now ≡ None
TakesNext (Some []) sent now = ⊥
TakesNext (Some (bytes ∷ rest)) sent now = (sent ≡ Some bytes) × (now ≡ Some rest)

-- what a client was sent is known, if it is known of all
abbrev pub AddsReply : Option (List SentReply) → Option SentReply → Option (List SentReply) → Type 0
AddsReply None reply now = now ≡ None
AddsReply (Some replies) reply now = (sent : SentReply) × (reply ≡ Some sent) × (now ≡ Some (replies ++ sent ∷ []))

-- the bytes that a client was sent, if they are known
abbrev pub bytes_of : Option SentReply → Known
bytes_of reply = option_map (λ (it : SentReply). it.bytes) reply

module _ {S : Type 0} (shown : Held S → State) where
  -- One connection, on which a client sent these bytes, of which these are left, and was sent this reply: the one request in it was
  -- answered with this status. Or it stopped: by a read only if a read may have failed, and by a write only if a write may have.
  abbrev pub IsServedOver : (read_failed write_failed : Type 0) → (sent left written now : Known) → OfficeModel S → Option ℕ → OfficeModel S → Type 0
  IsServedOver read_failed write_failed sent left written now old (Some status) new = ServesRequest shown old new sent left written now status
  IsServedOver read_failed write_failed sent left written now old None new =
      (why : Cause) × StopsRequest shown why old new sent left written now × (why ≡ Read → read_failed) × (why ≡ Write → write_failed)

  -- the same, on a connection on which nothing was written before; a write may have failed unless it is known that none did
  abbrev pub IsServed : (read_failed : Type 0) → (sent left : Known) → Option SentReply → OfficeModel S → Option ℕ → OfficeModel S → Type 0
  IsServed read_failed sent left reply old status new =
      IsServedOver read_failed (IfSome reply (λ it. 1 ≤ it.failed_writes)) sent left (option_map (λ _. []) reply) (bytes_of reply) old status new

  -- the next client was accepted and served. No read fails if it is known what the clients send
  pub record IsNextServed (before now : Clients) (old : OfficeModel S) (status : Option ℕ) (new : OfficeModel S) : Type 0 where
    pub sent : Known
    pub left : Known
    pub reply : Option SentReply
    pub port : now.listening ≡ before.listening
    pub counted : now.accepted ≡ one_more before.accepted
    pub none_failed : now.failed ≡ before.failed
    pub takes : TakesNext before.waiting sent now.waiting
    pub adds : AddsReply before.replies reply now.replies
    pub served : IsServed (before.waiting ≡ None) sent left reply old status new

  -- connections with these statuses were served, one after another: each in the office that the ones before it left
  abbrev pub AreServed : Clients → Clients → OfficeModel S → List (Option ℕ) → OfficeModel S → Type 0
  AreServed before now old [] new = (now ≡ before) × (new ≡ old)
  AreServed before now old (status ∷ rest) new =
      (between : Clients) × (next : OfficeModel S) × IsNextServed before between old status next × AreServed between now next rest new

  -- each connection that was served was accepted, until the count saturates
  abbrev pub ServedAreAccepted : Type 0
  ServedAreAccepted = (before now : Clients) (old new : OfficeModel S) (statuses : List (Option ℕ)) → AreServed before now old statuses new
      → before.accepted + length statuses < 2 ^ 64 → now.accepted ≡ before.accepted + length statuses

  -- connections were served, one after another, and then the server ended so
  abbrev pub ServesConnections : (List (Option ℕ) → Clients → Clients → Type 0) → Clients → Clients → OfficeModel S → OfficeModel S → Type 0
  ServesConnections Ends before now old new =
      (statuses : List (Option ℕ)) × (last : Clients) × AreServed before last old statuses new × Ends statuses last now
