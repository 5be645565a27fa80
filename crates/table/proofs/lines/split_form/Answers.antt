use Rattle.std.proofs.Common.{rules}
use Rattle.table.proofs.Rest.{rest_all}
use Rattle.table.proofs.lines.split_form.Goals as goal

pub returns : goal.returns
returns c = record { form = search rules; rest = rest_all 2 c.args.forms.now }
