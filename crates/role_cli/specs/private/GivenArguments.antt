-- What each subcommand has if the arguments are accepted, and what an error of another kind comes to. The definitions in this file
-- are used only in private contracts.
use Rattle.std.specs.Prelude.{⊤, ◌≡◌, ◌≢◌, ◌||◌, Bool, List, true, false, codes, Option, Some, None}
use Rattle.std.specs.Str.{bytes_eq}
use Rattle.clap.specs.Words.{Accepts, Row, Text, first_of, kind_of, one_of, read_as, reading_of}
use Rattle.clap.specs.declared.builder.ValueParser.{ValueParser}
use Rattle.clap.specs.declared.builder.ValueParser.TheVariants as parser
use Rattle.clap.specs.declared.error.kind.ErrorKind.{ErrorKind}
use Rattle.clap.specs.declared.error.kind.ErrorKind.TheVariants as kind
use Rattle.role_cli.specs.CommandLine.{limit_parser, port_parser}
use Rattle.role_cli.specs.declared.choice.Unchosen.{Unchosen}
use Rattle.role_cli.specs.declared.choice.Unchosen.TheVariants as unchosen

-- a fault has an error of this kind, which is not that of a failed allocation
abbrev pub IsOfKind : ErrorKind → Unchosen → Type 0
IsOfKind k (unchosen.Fault e) = (kind_of e ≡ k) × (k ≢ kind.OutOfMemory)
IsOfKind k _ = ⊤

-- accepts any text
abbrev pub text_parser : ValueParser
text_parser = parser.String

-- the argument has a first value, which its parser accepts and reads
abbrev pub IsGiven : ValueParser → Text → List Row → Type 0
IsGiven p id rows =
    (t : Text) × (first_of id rows ≡ Some t) × (one_of id rows ≡ Some (read_as (reading_of p) t)) × Accepts false p t

-- the subcommands that require FILE alone
abbrev pub is_of_file : Text → Bool
is_of_file name = bytes_eq name (codes "init") || (bytes_eq name (codes "export") || (bytes_eq name (codes "report")
    || (bytes_eq name (codes "check") || bytes_eq name (codes "migrate"))))

-- the subcommands that require FILE
abbrev pub requires_file : Text → Bool
requires_file name = is_of_file name || (bytes_eq name (codes "serve") || bytes_eq name (codes "import"))

-- the subcommand is one of the program's, and has what it requires
pub record IsWhole (name : Text) (rows : List Row) : Type 0 where
  pub known : (requires_file name || bytes_eq name (codes "replay")) ≡ true
  pub file : requires_file name ≡ true → IsGiven text_parser (codes "FILE") rows
  pub csv : bytes_eq name (codes "import") ≡ true → IsGiven text_parser (codes "CSV") rows
  pub port : bytes_eq name (codes "serve") ≡ true → IsGiven port_parser (codes "port") rows
  pub limit : bytes_eq name (codes "serve") ≡ true → IsGiven limit_parser (codes "limit") rows

-- there is a subcommand, and it has what it requires
abbrev pub IsEntered : Option (Text × List Row) → Type 0
IsEntered None = ⊥
IsEntered (Some m) = IsWhole m.0 m.1
