-- Relations between what the code handles and the definitions, which contracts cite.
pub mod Entry
