-- What the arguments of a command line choose.
use Rattle.std.specs.Prelude.{⊤, ◌≡◌, ◌≤◌, ◌⊎◌, ℕ, List, false, codes, Option, Some, None, IsSome, IsSomeAnd, String, string_bytes}
use Rattle.std.specs.Str.Parse.{digits_value, without_leading_plus}
use Rattle.clap.specs.Words.{App, IsAmong, Kinds, Row, Text, fault_of, first_of, kind_of, one_of, takes}
use Rattle.clap.specs.declared.error.kind.ErrorKind.{ErrorKind}
use Rattle.clap.specs.declared.error.kind.ErrorKind.TheVariants as kind
use Rattle.role_cli.specs.declared.choice.Choice.{Choice}
use Rattle.role_cli.specs.declared.choice.Choice.TheVariants.{Init, Replay, Serve, Import, Export, Report, Check, Migrate}
use Rattle.role_cli.specs.declared.choice.Place.TheVariants.{File, Memory}
use Rattle.role_cli.specs.declared.choice.Unchosen.{Unchosen}
use Rattle.role_cli.specs.declared.choice.Unchosen.TheVariants as unchosen

-- there is a text, and it is the number in digits
abbrev pub IsWordOf : Option Text → ℕ → Type 0
IsWordOf text n = IsSomeAnd text (λ digits. digits_value 10 (without_leading_plus digits) ≡ n)

-- the text is the first value of the argument
abbrev pub IsValueOf : {A : Type 0} → Text → List Row → String A → Type 0
IsValueOf id rows s = first_of id rows ≡ Some (string_bytes s)

-- the flag `--memory` is given
abbrev pub IsInMemory : List Row → Type 0
IsInMemory rows = first_of (codes "memory") rows ≡ Some (codes "true")

-- what the subcommand and its matches choose
abbrev pub ChoosesOf : Text → List Row → Choice → Type 0
ChoosesOf name rows (Init f) = (name ≡ codes "init") × IsValueOf (codes "FILE") rows f
ChoosesOf name rows (Replay (File f)) = (name ≡ codes "replay") × IsValueOf (codes "FILE") rows f × ¬ (IsInMemory rows)
ChoosesOf name rows (Replay Memory) = (name ≡ codes "replay") × (first_of (codes "FILE") rows ≡ None) × IsInMemory rows
ChoosesOf name rows (Serve f p n) = (name ≡ codes "serve") × IsValueOf (codes "FILE") rows f
    × IsWordOf (one_of (codes "port") rows) p × (1 ≤ p) × (p ≤ 65535)
    × IsWordOf (one_of (codes "limit") rows) n × (1 ≤ n) × (n ≤ 1000000)
ChoosesOf name rows (Import f c) = (name ≡ codes "import") × IsValueOf (codes "FILE") rows f × IsValueOf (codes "CSV") rows c
ChoosesOf name rows (Export f) = (name ≡ codes "export") × IsValueOf (codes "FILE") rows f
ChoosesOf name rows (Report f) = (name ≡ codes "report") × IsValueOf (codes "FILE") rows f
ChoosesOf name rows (Check f) = (name ≡ codes "check") × IsValueOf (codes "FILE") rows f
ChoosesOf name rows (Migrate f) = (name ≡ codes "migrate") × IsValueOf (codes "FILE") rows f

-- what the arguments choose, by their subcommand and its matches
abbrev pub Chooses : Option (Text × List Row) → Choice → Type 0
Chooses found c = IsSomeAnd found (λ m. ChoosesOf m.0 m.1 c)

-- FILE and `--memory` are both given, or neither is
abbrev pub HasBothOrNeither : List Row → Type 0
HasBothOrNeither rows = (IsSome (first_of (codes "FILE") rows) × IsInMemory rows) ⊎ ((first_of (codes "FILE") rows ≡ None) × ¬ (IsInMemory rows))

-- `replay` has both or neither
abbrev pub ReplaysBothOrNeither : Option (Text × List Row) → Type 0
ReplaysBothOrNeither found = IsSomeAnd found (λ m. (m.0 ≡ codes "replay") × HasBothOrNeither m.1)

-- the arguments are no command line of the program, or ask for help
abbrev pub IsFault : Unchosen → Type 0
IsFault (unchosen.Fault e) = ⊤
IsFault _ = ⊥

-- a fault has an error of one of these kinds
abbrev pub IsFaultBy : Kinds → Unchosen → Type 0
IsFaultBy kinds (unchosen.Fault e) = IsAmong (kind_of e) kinds
IsFaultBy kinds _ = ⊤

-- the kind is that of a request for help or for the version, which is no mistake
abbrev pub IsHelp : ErrorKind → Type 0
IsHelp k = (k ≡ kind.DisplayHelp) ⊎ (k ≡ kind.DisplayVersion)

-- `clap` does not promise to accept the arguments, and may answer them with help or the version
abbrev pub AsksHelp : App → List Text → Type 0
AsksHelp app words = (takes app words ≡ false) × ((k : ErrorKind) × IsHelp k × IsAmong k (fault_of app words))
