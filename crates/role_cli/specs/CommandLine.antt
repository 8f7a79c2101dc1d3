-- The program's command line, as `clap` reads it.
use Rattle.std.specs.Prelude.{true, List, [], ◌∷◌, codes, pos, Some}
use Rattle.clap.specs.Words.{App, Rule, Text, new_app, new_rule, with_rule, with_subcommand}
use Rattle.clap.specs.Simple.{on_top}
use Rattle.clap.specs.declared.builder.ArgAction.TheVariants.{Set, SetTrue}
use Rattle.clap.specs.declared.builder.ValueParser.{ValueParser}
use Rattle.clap.specs.declared.builder.ValueParser.TheVariants as parser

-- the path of an office, which is required
abbrev pub file : Rule
file = record (new_rule (codes "FILE")) { required = true; action = Some Set }

-- the path of an office, which is optional
abbrev pub maybe_file : Rule
maybe_file = record (new_rule (codes "FILE")) { action = Some Set }

abbrev pub csv : Rule
csv = record (new_rule (codes "CSV")) { required = true; action = Some Set }

abbrev pub in_memory : Rule
in_memory = record (new_rule (codes "memory")) { long = Some (codes "memory"); action = Some SetTrue }

abbrev pub port_parser : ValueParser
port_parser = parser.Signed (pos 1) (pos 65535)

abbrev pub port : Rule
port = record (new_rule (codes "port")) { long = Some (codes "port"); required = true; action = Some Set; parser = Some port_parser }

abbrev pub limit_parser : ValueParser
limit_parser = parser.Signed (pos 1) (pos 1000000)

abbrev pub limit : Rule
limit = record (new_rule (codes "limit")) { long = Some (codes "limit"); required = true; action = Some Set; parser = Some limit_parser }

-- a subcommand with FILE alone
abbrev pub of_file : Text → App
of_file name = with_rule (new_app name) file

abbrev pub replay : App
replay = with_rule (with_rule (new_app (codes "replay")) maybe_file) in_memory

abbrev pub serve : App
serve = with_rule (with_rule (with_rule (new_app (codes "serve")) file) port) limit

abbrev pub import_of : App
import_of = with_rule (with_rule (new_app (codes "import")) file) csv

-- the program with `--version`, and without its subcommands, one of which is required
abbrev pub bare_program : App
bare_program = on_top (λ s. record s { subcommand_required = true; has_version = true }) (new_app (codes "rbac"))

-- with these subcommands too
abbrev pub with_all : App → List App → App
with_all app [] = app
with_all app (first ∷ others) = with_all (with_subcommand app first.top) others

-- the program with all of them
abbrev pub program : App
program = with_all bare_program (of_file (codes "init") ∷ replay ∷ serve ∷ import_of ∷ of_file (codes "export") ∷ of_file (codes "report")
    ∷ of_file (codes "check") ∷ of_file (codes "migrate") ∷ [])
