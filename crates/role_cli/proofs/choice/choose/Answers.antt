use Rattle.std.proofs.Common.{◌≡◌, Bool, Bor, List, map, refl, subst, true, false, ℕ}
use Rattle.clap.specs.Words.{takes}
use Rattle.role_cli.specs.CommandLine.{program}
use Rattle.role_cli.specs.ArgumentChoice.{IsFault}
use Rattle.role_cli.specs.declared.choice.Unchosen.TheVariants.{Memory}
use Rattle.role_cli.proofs.Faults.{fault_by}
use Rattle.role_cli.proofs.Subcommands.{entered}
use Rattle.role_cli.proofs.choice.choose.Goals as goal

pub chosen-requires : goal.chosen-requires
chosen-requires c = rw ((c.in-Ok.ensures.ok refl).1) (entered (map (λ (s : Bor (List ℕ)). s.now) c.args.words.now) c.in-Ok.ensures.none)

pub returns-in-Err-clause-fault : goal.returns-in-Err-clause-fault
returns-in-Err-clause-fault c fault = go (takes program (map (λ (s : Bor (List ℕ)). s.now) c.args.words.now)) refl
  where
    go : (b : Bool) → takes program (map (λ (s : Bor (List ℕ)). s.now) c.args.words.now) ≡ b → b ≡ false
    go true t =
        let bad : IsFault Memory = subst IsFault (c.refused.ensures.memory (c.in-Err.ensures.err t)) fault in
        absurd bad
    go false t = refl

pub returns-in-Err-clause-kind : goal.returns-in-Err-clause-kind
returns-in-Err-clause-kind c = fault_by _ c.before.in-Err.error c.refused.result c.in-Err.ensures.kind c.refused.ensures.kind
