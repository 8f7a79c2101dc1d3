use Rattle.std.proofs.Common.{Bor, List, ℕ, ap}
use Rattle.std.specs.Prelude.{option_map}
use Rattle.clap.specs.Words.{found_of, rows_of}
use Rattle.role_cli.specs.private.GivenArguments.{text_parser}
use Rattle.role_cli.proofs.Getters.{given_first}
use Rattle.role_cli.proofs.choice.text_of.Goals as goal

pub unreachable-requires : goal.unreachable-requires
unreachable-requires c =
    given_first text_parser c.args.id.now (rows_of (found_of c.args.matches.now)) _ c.requires c.maybe_text_of.ensures
    (ap (option_map (λ (s : Bor (List ℕ)). s.now)) c.in_default.is)
