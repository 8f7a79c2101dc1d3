-- The program's command line with some of its subcommands. The definitions in this file are used only in private contracts.
use Rattle.std.specs.Prelude.{[], ◌∷◌, codes}
use Rattle.clap.specs.Words.{App}
use Rattle.role_cli.specs.CommandLine.{bare_program, import_of, of_file, replay, serve, with_all}

-- with its first three
abbrev pub first_three : App
first_three = with_all bare_program (of_file (codes "init") ∷ replay ∷ serve ∷ [])

-- with its first six
abbrev pub first_six : App
first_six = with_all first_three (import_of ∷ of_file (codes "export") ∷ of_file (codes "report") ∷ [])
