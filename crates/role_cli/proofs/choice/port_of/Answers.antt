use Rattle.std.proofs.Common.{◌∙◌, arith, codes}
use Rattle.std.specs.Str.Parse.{ParsesUnsigned, ExplainsUnsignedError, HasUnsignedDigitsIfOk}
use Rattle.clap.specs.Words.{found_of, one_of, rows_of}
use Rattle.clap.proofs.WalkLemmas.{one_text-rows}
use Rattle.role_cli.proofs.Getters.{reads_number, reads_some, reads_this}
use Rattle.role_cli.proofs.choice.port_of.Goals as goal

pub unreachable-requires : goal.unreachable-requires
unreachable-requires c =
    let found = found_of c.args.matches.now in
    let got = reads_number _ (λ bs r. ParsesUnsigned 16 10 bs r × ExplainsUnsignedError 10 bs r × HasUnsignedDigitsIfOk bs r) 16 1 65535 (codes "port") (rows_of found)
    c.get_one.result c.requires (λ t e. c.get_one.ensures.value t (one_text-rows found (codes "port") ∙ e)) (λ u x g. g.0) (omega arith) in
    reads_some 1 65535 (one_of (codes "port") (rows_of found)) c.get_one.result got c.in_default.is

pub returns-clause-word : goal.returns-clause-word
returns-clause-word c =
    let found = found_of c.args.matches.now in
    let got = reads_number _ (λ bs r. ParsesUnsigned 16 10 bs r × ExplainsUnsignedError 10 bs r × HasUnsignedDigitsIfOk bs r) 16 1 65535 (codes "port") (rows_of found)
    c.get_one.result c.requires (λ t e. c.get_one.ensures.value t (one_text-rows found (codes "port") ∙ e)) (λ u x g. g.0) (omega arith) in
    (reads_this 1 65535 (one_of (codes "port") (rows_of found)) c.get_one.result c.in-Some.port got c.in-Some.is).2

pub returns-clause-range : goal.returns-clause-range
returns-clause-range c =
    let found = found_of c.args.matches.now in
    let got = reads_number _ (λ bs r. ParsesUnsigned 16 10 bs r × ExplainsUnsignedError 10 bs r × HasUnsignedDigitsIfOk bs r) 16 1 65535 (codes "port") (rows_of found)
    c.get_one.result c.requires (λ t e. c.get_one.ensures.value t (one_text-rows found (codes "port") ∙ e)) (λ u x g. g.0) (omega arith) in
    let this = reads_this 1 65535 (one_of (codes "port") (rows_of found)) c.get_one.result c.in-Some.port got c.in-Some.is in
    (this.0, this.1)
