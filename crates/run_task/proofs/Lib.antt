pub mod RunTaskLaws
