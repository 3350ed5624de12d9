use Rattle.std.proofs.Common.{rules, string_bytes}
use Rattle.report_forms.proofs.html.html_text.Goals as goal

pub returns : goal.returns
returns c = (string_bytes c.push_body.new.page, search rules)
