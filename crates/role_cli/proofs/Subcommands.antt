-- What the subcommands of the program have if its arguments have no fault.
use Rattle.std.proofs.Common.{◌≡◌, ◌||◌, List, [], Option, Some, None, codes, refl, false}
use Rattle.std.specs.Str.{bytes_eq}
use Rattle.clap.specs.Walk.{Row, Text}
use Rattle.clap.specs.Simple.{built, subcommand_of}
use Rattle.clap.specs.Faults.{fault_of}
use Rattle.role_cli.specs.CommandLine.{limit_parser, port_parser, program}
use Rattle.role_cli.specs.private.GivenArguments.{IsEntered, IsWhole, requires_file, text_parser}
use Rattle.role_cli.proofs.GivenValues.{Each, Enters, Fits, enters, entered_gives, entered_named}

top_fits : Each (Fits (built program).top.rules) (built program).top.rules
top_fits = ((refl, refl, refl, refl), ((refl, refl, refl, refl), tt))

whole : (m : Text × List Row) → Enters (built program).subs false (Some m) → IsWhole m.0 m.1
whole m e = record {
  known = entered_named (built program).subs m (λ n. requires_file n || bytes_eq n (codes "replay"))
      (refl, (refl, (refl, (refl, (refl, (refl, (refl, (refl, (refl, tt)))))))))
      (refl, (refl, (refl, (refl, (refl, (refl, (refl, (refl, (refl, tt))))))))) e;
  file = entered_gives (built program).subs false m requires_file (codes "FILE") text_parser (
    (((refl, refl, refl, refl), ((refl, refl, refl, refl), tt)), refl, (_, refl, refl, refl, refl, refl)),
    (
      tt,
      (
        (((refl, refl, refl, refl), ((refl, refl, refl, refl), ((refl, refl, refl, refl), ((refl, refl, refl, refl), tt)))), refl, (_, refl, refl, refl, refl, refl)),
        (
          (((refl, refl, refl, refl), ((refl, refl, refl, refl), ((refl, refl, refl, refl), tt))), refl, (_, refl, refl, refl, refl, refl)),
          (
            (((refl, refl, refl, refl), ((refl, refl, refl, refl), tt)), refl, (_, refl, refl, refl, refl, refl)),
            (
              (((refl, refl, refl, refl), ((refl, refl, refl, refl), tt)), refl, (_, refl, refl, refl, refl, refl)),
              (
                (((refl, refl, refl, refl), ((refl, refl, refl, refl), tt)), refl, (_, refl, refl, refl, refl, refl)),
                (
                  (((refl, refl, refl, refl), ((refl, refl, refl, refl), tt)), refl, (_, refl, refl, refl, refl, refl)),
                  (tt, tt),
                ),
              ),
            ),
          ),
        ),
      ),
    ),
  ) e;
  csv = entered_gives (built program).subs false m (λ n. bytes_eq n (codes "import")) (codes "CSV") text_parser
      (tt, (tt, (tt, ((((refl, refl, refl, refl), ((refl, refl, refl, refl), ((refl, refl, refl, refl), tt))), refl, (_, refl, refl, refl, refl, refl)), (tt, (tt, (tt, (tt, (tt, tt))))))))) e;
  port = entered_gives (built program).subs false m (λ n. bytes_eq n (codes "serve")) (codes "port") port_parser
      (tt, (tt, ((((refl, refl, refl, refl), ((refl, refl, refl, refl), ((refl, refl, refl, refl), ((refl, refl, refl, refl), tt)))), refl, (_, refl, refl, refl, refl, refl)), (tt, (tt, (tt, (tt, (tt, (tt, tt))))))))) e;
  limit = entered_gives (built program).subs false m (λ n. bytes_eq n (codes "serve")) (codes "limit") limit_parser
      (tt, (tt, ((((refl, refl, refl, refl), ((refl, refl, refl, refl), ((refl, refl, refl, refl), ((refl, refl, refl, refl), tt)))), refl, (_, refl, refl, refl, refl, refl)), (tt, (tt, (tt, (tt, (tt, (tt, tt))))))))) e;
}

pub entered : (words : List Text) → fault_of program words ≡ [] → IsEntered (subcommand_of program words)
entered words none = go (subcommand_of program words) (enters program words top_fits refl none)
  where
    go : (o : Option (Text × List Row)) → Enters (built program).subs false o → IsEntered o
    go (Some m) e = whole m e
    go None e =
        let bad = e.is in
        cc
