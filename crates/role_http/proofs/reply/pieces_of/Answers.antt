use Rattle.std.proofs.Common.{refl}
use Rattle.role_http.proofs.reply.pieces_of.Goals as goal

pub returns : goal.returns
returns c = rw (c.as_slice.ensures, c.as_slice-2.ensures, c.as_slice-3.ensures, c.as_slice-4.ensures, c.as_slice-5.ensures) refl
