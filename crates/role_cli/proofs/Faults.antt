-- Faults of arguments, by their kinds.
use Rattle.std.proofs.Common.{inl, inr, sym, subst}
use Rattle.clap.specs.Words.{HasKind, IsAmong, Kinds, kind_of}
use Rattle.clap.specs.declared.error.Error.{Error}
use Rattle.role_cli.specs.ArgumentChoice.{IsFaultBy}
use Rattle.role_cli.specs.private.GivenArguments.{IsOfKind}
use Rattle.role_cli.specs.declared.choice.Unchosen.{Unchosen}
use Rattle.role_cli.specs.declared.choice.Unchosen.TheVariants as unchosen

-- if an error of one of the kinds is a fault, it is a fault of one of them
pub fault_by : (kinds : Kinds) (error : Error) (u : Unchosen) → HasKind kinds error → IsOfKind (kind_of error) u → IsFaultBy kinds u
fault_by kinds error (unchosen.Fault e) (inl memory) of_kind = absurd (of_kind.1 memory)
fault_by kinds error (unchosen.Fault e) (inr among) of_kind = subst (λ k. IsAmong k kinds) (sym of_kind.0) among
fault_by kinds error unchosen.Either has of_kind = tt
fault_by kinds error unchosen.Memory has of_kind = tt
